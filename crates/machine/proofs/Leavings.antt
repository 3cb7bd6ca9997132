-- A machine that leaves a symbol at its end is lawful if it is without that.
-- Assumes nothing.
use Prim.Native.Nat.{◌≤◌}
use native.Mathlib.Omega.{arith}
use mathlib.Core.Bool.{Bool}
use mathlib.Core.List.{List, [], ◌∷◌}
use lib.ListN.{length}
use borrow.Table.Steps.{cases}
use Rattle.machine.specs.Machine.{Machine}
use Rattle.machine.specs.Lawful.{Moves, takes_some, sends_some, stops, Lawful}
use Rattle.machine.specs.Leaving.{leaving, LeavesLast}

module _ {A S : Type 0} (leaves : S → A → Bool) (m : Machine A S) (last : LeavesLast leaves m) {Good : A → Type 0} {Sound : S → Type 0} (law : Lawful m Good Sound) where
  leaving-takes : (s : S) (view : List A) → (leaving leaves m).takes s view ≤ length view
  leaving-takes s [] = law.takes_in_view s []
  leaving-takes s (a ∷ view) = cases (leaves s a) (λ t. rw t (omega arith)) (λ f. rw f (law.takes_in_view s (a ∷ view)))

  leaving-moves : (s : S) (view : List A) → Moves m s view → Moves (leaving leaves m) s view
  leaving-moves s view (stops p) = stops p
  leaving-moves s view (sends_some p q) = sends_some p q
  leaving-moves s [] (takes_some p) = takes_some p
  leaving-moves s (a ∷ view) (takes_some p) = cases (leaves s a) (λ t. stops (last s a view t)) (λ f. takes_some (rw f p))

  pub leaving-lawful : Lawful (leaving leaves m) Good Sound
  leaving-lawful =
      record {
        stays_sound = law.stays_sound;
        takes_in_view = leaving-takes;
        moves = λ s view views e l. leaving-moves s view (law.moves s view views e l);
        due_falls = law.due_falls;
      }
