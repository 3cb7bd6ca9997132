-- `visit::replay`: the refusals in order, and what playing gives written out.
-- Assumes nothing.
use mathlib.Core.Path.{sym, ◌∙◌}
use Rattle.memory.specs.Memories.{memories}
use Rattle.machine.proofs.Refusals.{some-number}
use Rattle.recording.proofs.Faults.{fault-some}
use Rattle.visit.proofs.Replays.{bad-lengths, bad-file, good-file, playable}
use Rattle.visit.proofs.replay.Goals as goal

pub returns-in-Err : goal.returns-in-Err
returns-in-Err c =
    let is = c.from.ensures ∙ c.in-Err.ensures in
    bad-lengths c.args.recording.now (memories c.args.ram.now c.args.flash.now c.args.work.now) c.refused.result c.from.result is
    (λ z. some-number c.in-Err.why (sym c.from.ensures ∙ z)) c.refused.ensures

pub returns-in-Err-check : goal.returns-in-Err-check
returns-in-Err-check c =
    let is = c.from-in-Err-check.ensures ∙ c.in-Err-check.ensures in
    bad-file c.args.recording.now (memories c.args.ram.now c.args.flash.now c.args.work.now) c.refused-in-Err-check.result (sym c.in_default.ensures) c.from-in-Err-check.result is
    (λ z. fault-some c.in-Err-check.fault (sym c.from-in-Err-check.ensures ∙ z)) c.refused-in-Err-check.ensures

pub play-requires : goal.play-requires
play-requires c = playable c.args.recording.now (memories c.args.ram.now c.args.flash.now c.args.work.now) (sym c.in_default.ensures) (sym c.in_default-check.ensures)

pub returns : goal.returns
returns c =
    good-file c.args.recording.now (memories c.args.ram.now c.args.flash.now c.args.work.now) c.answer.result (sym c.in_default.ensures) (sym c.in_default-check.ensures)
    c.play.result (memories c.play.new.ram c.play.new.flash c.play.new.work) c.play.ensures.played c.answer.ensures
