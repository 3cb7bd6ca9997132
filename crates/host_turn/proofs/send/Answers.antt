-- `host_turn::send`: each sending by the part that sends it.
-- Assumes nothing.
use Rattle.host_turn.proofs.Ones.{sends-one}
use Rattle.host_command.specs.Exchange.{awaited_of}
use Rattle.host_command.specs.declared.Exchange.{Exchange}
use mathlib.Core.Path.{sym, ap, ◌∙◌}
use Rattle.host_turn.proofs.send.Goals as goal

pub send_payload-requires : goal.send_payload-requires
send_payload-requires c =
    let fits = rw c.in-Payload.is at c.requires.fits_sending in
    (fits.0, fits.1, c.requires.j_in_bounds)

pub send_crc-requires : goal.send_crc-requires
send_crc-requires c =
    let fits = rw c.in-Crc.is at c.requires.fits_sending in
    rw c.awaited-awaited.ensures (fits, c.requires.j_in_bounds)

pub send_crc_high-requires : goal.send_crc_high-requires
send_crc_high-requires c =
    let fits = rw c.in-CrcHigh.is at c.requires.fits_sending in
    rw c.awaited-awaited.ensures (fits, c.requires.j_in_bounds)

pub returns-in-Byte : goal.returns-in-Byte
returns-in-Byte c =
    record { is = λ opcode s known so. sends-one _ _ s _ _ ((rw c.in-Byte.is at so).is _ _ known) _ _ c.requires.j_in_bounds _ c.to.ensures _ c.by_one.ensures }

pub returns-in-Payload : goal.returns-in-Payload
returns-in-Payload c =
    record { is = λ opcode s known so. rw (rw c.in-Payload.is at so) (c.send_payload.ensures.is opcode _) }

pub returns-in-Crc : goal.returns-in-Crc
returns-in-Crc c =
    record { is = λ opcode s known so. rw (rw c.in-Crc.is at so) (c.send_crc.ensures.is opcode _ (ap (λ (e : Exchange). awaited_of e.follows) known ∙ sym c.awaited-awaited.ensures)) }

pub returns-in-CrcHigh : goal.returns-in-CrcHigh
returns-in-CrcHigh c =
    record { is = λ opcode s known so. rw (rw c.in-CrcHigh.is at so) (c.send_crc_high.ensures.is opcode _ (ap (λ (e : Exchange). awaited_of e.follows) known ∙ sym c.awaited-awaited.ensures)) }
