-- Two sessions whose definitions close on each other alone keep to what closes.
-- Assumes nothing.
use Prim.Native.Nat.{ℕ}
use mathlib.Core.List.{List}
use Rattle.machine.specs.History.{Event}
use Rattle.machine.specs.Lawful.{Any, Lawful}
use Rattle.machine.specs.Session.{Session}
use Rattle.machine.specs.SessionLaws.{Faithful}
use Rattle.joining.specs.Closing.{ClosesAlone}
use Rattle.joining.specs.Diligence.{Brief}
use Rattle.joining.specs.CleanLine.{CleanLine}
use Rattle.joining.proofs.Joints.{every-schedule}
use Rattle.joining.proofs.Diligences.{diligent}
use Rattle.joining.proofs.Lists.{every-list, diligent_lists}
use Rattle.joining.proofs.Programs.{every-program}

pub clean_line : {M N S K : Type 0} (σ : Session ℕ M S) (τ : Session ℕ N K) {GoodS GoodK : ℕ → Type 0} {freshS : M → S} {freshK : N → K} {SoundS : S → Type 0}
    {SoundK : K → Type 0} {InvS : List (Event ℕ S) → S → Type 0} {InvK : List (Event ℕ K) → K → Type 0} →
    Faithful σ GoodS freshS SoundS InvS → Faithful τ GoodK freshK SoundK InvK →
    Lawful σ.machine Any SoundS → Lawful τ.machine Any SoundK → Brief σ.machine → Brief τ.machine →
    (s : S) → SoundS s → (t : K) → SoundK t → (h r : List ℕ) → ClosesAlone σ.machine τ.machine s t h r → CleanLine σ τ s t h r
clean_line σ τ faithS faithK lawS lawK briefS briefK s gs t gt h r c =
    let lists = every-list σ τ faithS faithK lawS lawK s gs t gt h r c in
    let diligently = diligent_lists σ τ faithS faithK lawS lawK s gs t gt h r c briefS briefK in
    record {
      closes = c;
      schedules = every-schedule σ.machine τ.machine lawS lawK s gs t gt h r c;
      diligent = diligent σ.machine τ.machine lawS lawK s gs t gt h r briefS briefK c;
      lists = lists;
      diligent_lists = diligently;
      programs = every-program σ τ s t h r lists diligently;
    }
