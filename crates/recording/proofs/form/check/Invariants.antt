-- `recording::form::check`: what is wrong from here on is what is wrong with the file.
-- Assumes nothing.
use mathlib.Core.Path.{◌≡◌}
use lib.ListN.{length}
use Rattle.recording.specs.Recording.{recording_of, entries_of, fault_of}
use Rattle.recording.proofs.form.check.Given as goal

abbrev pub invariant-loop-rest : goal.invariant-loop-rest
invariant-loop-rest l = fault_of (recording_of l.file) ≡ fault_of (entries_of l.rest)

abbrev pub decreases-loop-rest : goal.decreases-loop-rest
decreases-loop-rest l = length l.rest
