-- `visit::play::play`: what is still to come after a call is what was still to come before it, less what it gave.
-- Assumes nothing.
use Rattle.memory.specs.Memories.{memories}
use Rattle.visit.proofs.Playing.{effort, Playing}
use Rattle.visit.proofs.play.play.Given as goal

abbrev pub invariant-loop-done : goal.invariant-loop-done
invariant-loop-done l = Playing l.file (memories l.initial.ram l.initial.flash l.initial.work) l.initial.held l.session (memories l.ram l.flash l.work) l.host l.held l.room

abbrev pub decreases-loop-done : goal.decreases-loop-done
decreases-loop-done l = effort l.session (memories l.ram l.flash l.work) l.host
