-- `rom::session::act`: each turn of the loop is takes or sends of the machine, and where it returns the machine has stopped.
-- Assumes nothing.
use Rattle.rom.proofs.Turns.{At}
use lib.ListN.{length}
use Prim.Native.Nat.{◌+◌, ◌-◌}
use Rattle.rom.proofs.session.act.Given as goal

abbrev pub invariant-loop-taking : goal.invariant-loop-taking
invariant-loop-taking l = At l.kind l.fn.first l.fn.reason l.initial.ram l.input l.initial.reply l.at.step l.at.reason l.ram l.reply l.at.taken l.at.sent

abbrev pub decreases-loop-taking : goal.decreases-loop-taking
decreases-loop-taking l = length l.input - l.at.taken + (length l.reply - l.at.sent)
