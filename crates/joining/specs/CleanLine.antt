-- All that is claimed of two sessions joined by a clean line (rules, 15.9).
-- Assumes nothing.
use Rattle.std.specs.Prelude.{ℕ, List}
use Rattle.machine.specs.Session.{Session}
use Rattle.joining.specs.Closing.{ClosesAlone}
use Rattle.joining.specs.Schedules.{EverySchedule}
use Rattle.joining.specs.Diligence.{Diligent}
use Rattle.joining.specs.Lists.{EveryList, DiligentLists}
use Rattle.joining.specs.Programs.{EveryProgram}

-- from s and t the left one sends h and the right one r, however they are called
pub record CleanLine {M N S K : Type 0} (σ : Session ℕ M S) (τ : Session ℕ N K) (s : S) (t : K) (h r : List ℕ) : Type 0 where
  pub closes : ClosesAlone σ.machine τ.machine s t h r
  pub schedules : EverySchedule σ.machine τ.machine s t h r
  pub diligent : Diligent σ.machine τ.machine s t h r
  -- the same of calls on the sessions, with records and memories handed back
  pub lists : EveryList σ τ s t h r
  pub diligent_lists : DiligentLists σ τ s t h r
  -- and of what a program's calls gave back
  pub programs : EveryProgram σ τ s t h r
