-- Code runs exactly when acknowledged, if each action starts it exactly by taking the acknowledgement.
-- Assumes nothing.
use Prim.Native.Nat.{ℕ}
use native.Mathlib.Omega.{arith}
use mathlib.Core.Path.{◌≡◌, refl, sym, ◌∙◌}
use mathlib.Core.Bool.{Bool, true, false, ◌&&◌, ◌||◌}
use mathlib.Core.List.{List, ◌∷◌}
use Rattle.wire.specs.Line.{ack}
use Rattle.machine.specs.Machine.{Need, acts, runs, Machine, is_running}
use Rattle.machine.specs.History.{Event}
use Rattle.machine.specs.Acknowledged.{took_byte, acknowledged, RunsExactly}

-- a machine that still acts is not running code
pub acts-waits : (n : Need) (views : ℕ) → n ≡ acts views → is_running n ≡ false
acts-waits (acts v) views e = refl
acts-waits runs views e = absurd (let z : ◌≡◌ {A = ℕ} 0 1 = cc in omega arith)

or-false : (a b : Bool) → b ≡ false → (a || b) ≡ a
or-false true b e = refl
or-false false b e = e

pub runs_on : {S : Type 0} (awaits : S → Bool) (m : Machine ℕ S) (events : List (Event ℕ S)) (s t : S) (view : List ℕ) (views : ℕ) →
    m.need s ≡ acts views → RunsExactly awaits m events s → is_running (m.need t) ≡ (awaits s && took_byte ack view) →
    RunsExactly awaits m (record { state = s; view = view } ∷ events) t
runs_on awaits m events s t view views e h q =
    let none : acknowledged awaits events ≡ false = sym h ∙ acts-waits (m.need s) views e in
    q ∙ sym (or-false (awaits s && took_byte ack view) (acknowledged awaits events) none)
