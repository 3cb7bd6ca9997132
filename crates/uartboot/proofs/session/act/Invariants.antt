-- `uartboot::session::act`: each turn of the loop is takes or sends of the machine, and where it returns the machine has stopped.
-- Assumes nothing.
use Rattle.memory.specs.Memories.{memories}
use Rattle.uartboot.proofs.Turns.{At}
use lib.ListN.{length}
use Prim.Native.Nat.{◌+◌, ◌-◌}
use Rattle.uartboot.proofs.session.act.Given as goal

abbrev pub invariant-loop-taking : goal.invariant-loop-taking
invariant-loop-taking l = At l.fn.first l.fn.reason (memories l.initial.ram l.initial.flash l.initial.work) l.input l.initial.reply l.at.step l.at.reason (memories l.ram l.flash l.work) l.reply l.at.taken l.at.sent

abbrev pub decreases-loop-taking : goal.decreases-loop-taking
decreases-loop-taking l = length l.input - l.at.taken + (length l.reply - l.at.sent)
