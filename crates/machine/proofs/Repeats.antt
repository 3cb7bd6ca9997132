-- Several takes, or sends, in a row, in a call that a program's loop makes; and what they keep.
-- Assumes nothing.
use Prim.Native.Nat.{ℕ, ◌+◌, ◌≤◌}
use native.Mathlib.Nat.{add-zero, add-suc}
use native.Mathlib.Numerals.{add-one}
use mathlib.Core.Path.{◌≡◌, refl, ◌∙◌}
use mathlib.Core.List.{List, [], ◌∷◌}
use lib.ListN.{length, get_or, length-set}
use Rattle.machine.specs.Machine.{Machine}
use Rattle.machine.specs.Lawful.{Any, Kept, Lawful}
use Rattle.machine.specs.Steps.{Takes, Sends}
use Rattle.machine.specs.Steps as steps
use Rattle.machine.proofs.Loops.{Reached, reached-take, reached-send}

-- of a machine whose takes send nothing
module _ {S : Type 0} (m : Machine ℕ S) (silent : (s : S) (a : ℕ) → m.says s (a ∷ []) ≡ []) {Good : ℕ → Type 0} {Sound : S → Type 0} (law : Lawful m Good Sound)
    {s₀ : S} {input : List ℕ} {old : List ℕ} where
  pub reached-takes : {s : S} {i j : ℕ} {reply : List ℕ} {count : ℕ} {t : S} → Reached m s₀ input old s i j reply → Takes m input i s count t →
      Reached m s₀ input old t (i + count) j reply
  reached-takes r steps.none = rw add-zero r
  reached-takes {i = i} r (steps.more {count} {t} before e one h) =
      rw (add-suc i count, ← add-one (i + count)) (reached-take m law (reached-takes r before) 0 e h (silent t (get_or input (i + count) 0)) one)

  pub reached-sends : {s : S} {i j : ℕ} {reply : List ℕ} {count : ℕ} {t : S} {after : List ℕ} → Reached m s₀ input old s i j reply → Sends m s j reply count t after →
      Reached m s₀ input old t i (j + count) after
  reached-sends r steps.none = rw add-zero r
  reached-sends {j = j} r (steps.more {count} {byte = b} {t} before e says h) =
      rw (add-suc j count, ← add-one (j + count)) (reached-send m law (reached-sends r before) e b says h)

-- what single actions keep, whatever the bytes, several keep
module _ {S : Type 0} (m : Machine ℕ S) (P : S → Type 0) (kept : Kept m Any (λ _ s. P s)) where
  pub takes-keep : {input : List ℕ} {i : ℕ} {s : S} {count : ℕ} {t : S} → Takes m input i s count t → P s → P t
  takes-keep steps.none p = p
  takes-keep {input} {i} (steps.more {count} {t} before e one h) p = kept [] t (get_or input (i + count) 0 ∷ []) 1 e refl (tt, tt) (takes-keep before p)

  pub sends-keep : {j : ℕ} {s : S} {old : List ℕ} {count : ℕ} {t : S} {reply : List ℕ} → Sends m s j old count t reply → P s → P t
  sends-keep steps.none p = p
  sends-keep (steps.more {count} {byte = b} {t} before e says h) p = kept [] t [] 0 e refl tt (sends-keep before p)

-- the reply slice keeps its length
pub sends-length : {S : Type 0} (k : Machine ℕ S) {j : ℕ} {s : S} {old : List ℕ} {count : ℕ} {t : S} {reply : List ℕ} → Sends k s j old count t reply → length reply ≡ length old
sends-length k steps.none = refl
sends-length k {j} (steps.more {count} {byte = b} {t} {reply} before e says h) = length-set reply (j + count) b ∙ sends-length k before

-- no more is taken than there is, and no more sent than there is room for
pub takes-fit : {S : Type 0} (k : Machine ℕ S) {input : List ℕ} {i : ℕ} {s : S} {count : ℕ} {t : S} → Takes k input i s count t → i ≤ length input → i + count ≤ length input
takes-fit k steps.none h = rw add-zero h
takes-fit k {i = i} (steps.more {count} before e one h) fits = rw (add-suc i count) h

pub sends-fit : {S : Type 0} (k : Machine ℕ S) {j : ℕ} {s : S} {old : List ℕ} {count : ℕ} {t : S} {reply : List ℕ} → Sends k s j old count t reply → j ≤ length old → j + count ≤ length reply
sends-fit k steps.none h = rw add-zero h
sends-fit k {j} (steps.more {count} {byte = b} {t} {reply} before e says h) fits = rw (length-set reply (j + count) b, add-suc j count) h
