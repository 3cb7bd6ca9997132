-- `host_turn::take`: each taking by the part that takes it.
-- Assumes nothing.
use Rattle.host_turn.proofs.Ones.{takes_one, takes_at}
use Rattle.host_command.specs.Exchange.{awaited_of}
use Rattle.host_command.specs.declared.Exchange.{Exchange}
use mathlib.Core.Path.{refl, sym, ap, ◌∙◌}
use Rattle.host_turn.proofs.take.Goals as goal

pub take_answer-requires : goal.take_answer-requires
take_answer-requires c =
    let fits = rw c.in-Answer.is at c.requires.fits_taking in
    rw c.awaited-awaited.ensures (fits.0, fits.1, c.requires.i_in_bounds)

pub returns-in-Awaited : goal.returns-in-Awaited
returns-in-Awaited c =
    record { is = λ opcode s known so. let on = rw c.in-Awaited.is at so in takes_one _ _ s _ (on.is _ _ known) on.never_leaves _ _ c.requires.i_in_bounds _ (c.took_awaited.ensures.is _) _ c.by_one.ensures }

pub returns-in-Any : goal.returns-in-Any
returns-in-Any c =
    record { is = λ opcode s known so. let on = rw c.in-Any.is at so in takes_one _ _ s _ (on.is _ _ known) on.never_leaves _ _ c.requires.i_in_bounds _ (rw c.to.ensures refl) _ c.by_one-in-Any.ensures }

pub returns-in-CrcLow : goal.returns-in-CrcLow
returns-in-CrcLow c =
    record { is = λ opcode s known so. takes_at _ _ s _ (rw c.in-CrcLow.is at so) refl refl _ _ c.requires.i_in_bounds _ (c.took_crc_low.ensures.is _) _ c.by_one-in-CrcLow.ensures }

pub returns-in-CrcHigh : goal.returns-in-CrcHigh
returns-in-CrcHigh c =
    record { is = λ opcode s known so. takes_at _ _ s _ (rw c.in-CrcHigh.is at so) refl refl _ _ c.requires.i_in_bounds _ (c.took_crc_high.ensures.is opcode _) _ c.by_one-in-CrcHigh.ensures }

pub returns-in-LengthLow : goal.returns-in-LengthLow
returns-in-LengthLow c =
    record { is = λ opcode s known so. takes_at _ _ s _ (rw c.in-LengthLow.is at so) refl refl _ _ c.requires.i_in_bounds _ (c.took_length_low.ensures.is _ (ap (λ (e : Exchange). awaited_of e.follows) known ∙ sym c.awaited-awaited.ensures)) _ c.by_one-in-LengthLow.ensures }

pub returns-in-LengthHigh : goal.returns-in-LengthHigh
returns-in-LengthHigh c =
    record { is = λ opcode s known so. takes_at _ _ s _ (rw c.in-LengthHigh.is at so) refl refl _ _ c.requires.i_in_bounds _ (c.took_length_high.ensures.is _ (ap (λ (e : Exchange). awaited_of e.follows) known ∙ sym c.awaited-awaited.ensures)) _ c.by_one-in-LengthHigh.ensures }

pub returns-in-Answer : goal.returns-in-Answer
returns-in-Answer c =
    record { is = λ opcode s known so. rw (rw c.in-Answer.is at so) (c.take_answer.ensures.is opcode _ (ap (λ (e : Exchange). awaited_of e.follows) known ∙ sym c.awaited-awaited.ensures)) }
