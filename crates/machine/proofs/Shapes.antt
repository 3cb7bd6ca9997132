-- The laws can be met by actions that neither take one symbol nor send with nothing in view: a slot of several symbols with one byte in
-- answer, and a look at a symbol, which stays or is taken by what it is. So the claim holds of these as well.
-- Assumes nothing.
use Prim.Native.Nat.{ℕ, suc, ◌≤◌, ◌<◌}
use native.Mathlib.Omega.{arith}
use mathlib.Core.Path.{◌≡◌, refl, sym, ap, ◌∙◌}
use mathlib.Core.Bool.{Bool, true, false, cond}
use mathlib.Core.List.{List, [], ◌∷◌}
use lib.Dec.{eqb}
use lib.ListN.{length}
use borrow.Table.Steps.{cases}
use Rattle.machine.specs.Machine.{Need, acts, runs, Machine}
use Rattle.machine.specs.Lawful.{Any, takes_some, stops, Moves, Lawful}
use Rattle.machine.specs.Cuts.{CutsNeverMatter}
use Rattle.machine.proofs.Stops.{views_of, not-both}
use Rattle.machine.proofs.Cuts.{cuts-never-matter}

-- slots of `width` symbols: each is taken whole, answered with one byte, and counted
abbrev slots : (width : ℕ) → Machine ℕ ℕ
slots width = record { need = λ s. acts width; after = λ s view. suc s; says = λ s view. 0xAA ∷ []; takes = λ s view. length view; due = λ s. 0 }

slots-lawful : (width : ℕ) → 0 < width → Lawful (slots width) Any Any
slots-lawful width some =
    record {
      stays_sound = λ events s view views e l w g. tt;
      takes_in_view = λ s view. omega arith;
      moves = λ s view views e l. let v : width ≡ views = ap views_of e in takes_some (omega arith);
      due_falls = λ s g e. let v : width ≡ 0 = ap views_of e in absurd (let z : ⊥ = omega arith in z);
    }

pub slots-never-matter : (width : ℕ) → 0 < width → CutsNeverMatter (slots width) Any Any
slots-never-matter width some = cuts-never-matter (slots width) (slots-lawful width some)

-- a look at one symbol: `kept` stays, and nothing follows; any other is taken, and the look goes on
abbrev look_need : (seen : Bool) → Need
look_need false = acts 1
look_need true = runs

abbrev look_takes : (kept : ℕ) (view : List ℕ) → ℕ
look_takes kept [] = 0
look_takes kept (a ∷ view) = cond (eqb a kept) 0 1

abbrev look_after : (kept : ℕ) (view : List ℕ) → Bool
look_after kept [] = false
look_after kept (a ∷ view) = eqb a kept

abbrev looks : (kept : ℕ) → Machine ℕ Bool
looks kept = record { need = look_need; after = λ s view. look_after kept view; says = λ s view. []; takes = λ s view. look_takes kept view; due = λ s. 0 }

look-views : (s : Bool) (views : ℕ) → look_need s ≡ acts views → views ≡ 1
look-views false views e = sym (ap views_of e)
look-views true views e = absurd (not-both views e)

look-takes : (kept : ℕ) (view : List ℕ) → look_takes kept view ≤ length view
look-takes kept [] = omega arith
look-takes kept (a ∷ view) = one (eqb a kept)
  where
    one : (t : Bool) → cond t 0 1 ≤ suc (length view)
    one true = omega arith
    one false = omega arith

look-moves : (kept : ℕ) (s : Bool) (view : List ℕ) → length view ≡ 1 → Moves (looks kept) s view
look-moves kept s [] l = absurd (let z : ⊥ = omega arith in z)
look-moves kept s (a ∷ view) l = cases (eqb a kept) (λ t. stops (rw t refl)) (λ f. takes_some (rw f (omega arith)))

looks-lawful : (kept : ℕ) → Lawful (looks kept) Any Any
looks-lawful kept =
    record {
      stays_sound = λ events s view views e l w g. tt;
      takes_in_view = λ s view. look-takes kept view;
      moves = λ s view views e l. look-moves kept s view (l ∙ look-views s views e);
      due_falls = λ s g e. absurd (let z : ⊥ = omega (arith, look-views s 0 e) in z);
    }

pub looks-never-matter : (kept : ℕ) → CutsNeverMatter (looks kept) Any Any
looks-never-matter kept = cuts-never-matter (looks kept) (looks-lawful kept)
