-- `recording::run::Run::first`: what is left in the run is what was left at first, and it lies where the entries do.
-- Assumes nothing.
use lib.ListN.{length}
use Rattle.recording.proofs.Runs.{Finding}
use Rattle.recording.proofs.run.Run.first.Given as goal

abbrev pub invariant-loop-rest : goal.invariant-loop-rest
invariant-loop-rest l = Finding l.kind l.entries l.initial.run l.run

abbrev pub decreases-loop-rest : goal.decreases-loop-rest
decreases-loop-rest l = length l.run.after.now
