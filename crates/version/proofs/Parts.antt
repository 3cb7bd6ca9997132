-- What follows the digits with which a part of a text begins.
-- Assumes nothing.
use Prim.Native.Nat.{ℕ, ◌≤◌}
use mathlib.Core.Path.{◌≡◌, refl, ap}
use mathlib.Core.List.{List, [], ◌∷◌}
use mathlib.Core.Bool.{true, false, and-false}
use native.Mathlib.Omega.{arith}
use lib.Dec.{eqb}
use lib.ListN.{length, drop, get_or}
use borrow.Author.Tests.{ne_eqb, eqb-true}
use Rattle.version.specs.Text.{text, padding, all_zero, dot, first_part, later_parts, parts, is_digit, all_digits, is_number}
use Rattle.version.specs.Decimal.{digits_of}
use borrow.Table.Steps.{cases}
use Rattle.version.proofs.Digits.{digit_low}

-- what follows the digits that bytes begin with
abbrev pub rest : List ℕ → List ℕ
rest l = drop (length (digits_of l)) l

-- and by what it begins with: the first part is the digits, and the text ends or goes on after a dot; or it has another byte in it
pub data After (l : List ℕ) : Type 0 where
  at_end : first_part (text l) ≡ digits_of l → later_parts (text l) ≡ [] → padding l ≡ rest l → eqb (get_or (rest l) 0 0) dot ≡ false → After l
  at-dot : (t : List ℕ) → rest l ≡ dot ∷ t → first_part (text l) ≡ digits_of l → later_parts (text l) ≡ parts (text t) → padding l ≡ padding t → After l
  at_other : all_digits (first_part (text l)) ≡ false → all_zero (rest l) ≡ false → eqb (get_or (rest l) 0 0) dot ≡ false → After l

no_zero : (b : ℕ) → is_digit b ≡ true → eqb b 0 ≡ false
no_zero b e = ne_eqb b 0 (λ k. omega (arith, digit_low b e))

no-dot : (b : ℕ) → is_digit b ≡ true → eqb b dot ≡ false
no-dot b e = ne_eqb b dot (λ k. omega (arith, digit_low b e))

after-digit : (b : ℕ) (bs : List ℕ) → is_digit b ≡ true → After bs → After (b ∷ bs)
after-digit b bs e (at_end f l p d) =
    at_end (simp (e, no_zero b e, no-dot b e, f)) (simp (no_zero b e, no-dot b e, l)) (simp (e, no_zero b e, p)) (simp (e, d))
after-digit b bs e (at-dot t r f l p) =
    at-dot t (simp (e, r)) (simp (e, no_zero b e, no-dot b e, f)) (simp (no_zero b e, no-dot b e, l)) (simp (no_zero b e, p))
after-digit b bs e (at_other f z d) =
    at_other (simp (no_zero b e, no-dot b e, f, and-false)) (simp (e, z)) (simp (e, d))

after-other : (b : ℕ) (bs : List ℕ) → is_digit b ≡ false → After (b ∷ bs)
after-other b bs e =
    cases (eqb b dot)
    (λ d.
    let k : b ≡ dot = eqb-true b dot d in
    let z : eqb b 0 ≡ false = ne_eqb b 0 (λ q. omega arith) in
    at-dot bs (simp e (ap (λ (x : ℕ). x ∷ bs) k)) (simp (e, z, d)) (simp (z, d)) (simp z))
    (λ d. cases (eqb b 0) (λ z. at_end (simp (e, z)) (simp z) (simp (e, z)) (simp (e, d))) (λ z. at_other (simp (e, z, d)) (simp (e, z)) (simp (e, d))))

pub after : (l : List ℕ) → After l
after [] = at_end refl refl refl refl
after (b ∷ bs) = cases (is_digit b) (λ e. after-digit b bs e (after bs)) (λ e. after-other b bs e)

pub not-number : (part : List ℕ) → all_digits part ≡ false → is_number part ≡ false
unfolding is_number
not-number part e = simp (e, and-false)

pub digits-short : (l : List ℕ) → length (digits_of l) ≤ length l
digits-short [] = omega arith
digits-short (b ∷ bs) = cases (is_digit b) (λ e. simp e (omega (arith, digits-short bs))) (λ e. simp e (omega arith))
