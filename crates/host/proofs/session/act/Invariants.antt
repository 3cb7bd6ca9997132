-- `host::session::act`: each turn of the loop is takes, sends or a look of the machine, and where it returns the machine has stopped.
-- Assumes nothing.
use Prim.Native.Nat.{◌+◌, ◌-◌}
use lib.ListN.{length}
use Rattle.host.proofs.Turns.{At}
use Rattle.host.proofs.session.act.Given as goal

abbrev pub invariant-loop-taking : goal.invariant-loop-taking
invariant-loop-taking l = At l.x l.fn.first l.fn.reason l.payload l.initial.answer l.input l.initial.output l.at.step l.at.reason l.answer l.output l.at.taken l.at.sent

abbrev pub decreases-loop-taking : goal.decreases-loop-taking
decreases-loop-taking l = length l.input - l.at.taken + (length l.output - l.at.sent)
