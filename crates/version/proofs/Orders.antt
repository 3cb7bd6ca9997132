-- The order of ranks is that of the library, and two fields have it where both are well formed.
-- Assumes nothing.
use borrow.Table.Steps.{cases}
use Rattle.std.proofs.Common.{◌≡◌, ℕ, List, [], ◌∷◌, length, refl, arith, nat_cmp, Some}
use Rattle.std.specs.Option.{option_and_then}
use Rattle.std.proofs.lemmas.Bool.Decides.{nat_tests}
use Rattle.std.specs.Cmp.Lexicographic.{slice_cmp}
use Rattle.version.specs.Text.{well_formed}
use Rattle.version.specs.Rank.{numbers_of, rank_of}
use Rattle.version.specs.Order.{compared, compared_fields}

pub by_place : (a b : List ℕ) → length a ≡ length b → slice_cmp nat_cmp a b ≡ compared a b
by_place [] [] h = refl
by_place [] (y ∷ q) h = absurd (omega arith)
by_place (x ∷ p) [] h = absurd (omega arith)
by_place (x ∷ p) (y ∷ q) h = let e = by_place p q (omega arith) in step x y p q e
  where
    step : (x y : ℕ) (p q : List ℕ) → slice_cmp nat_cmp p q ≡ compared p q → slice_cmp nat_cmp (x ∷ p) (y ∷ q) ≡ compared (x ∷ p) (y ∷ q)
    step x y p q e = grind (arith, nat_tests)

pub compared_by : (a b : List ℕ) → compared_fields a b ≡ option_and_then (λ p. option_and_then (λ q. Some (compared p q)) (numbers_of b)) (numbers_of a)
unfolding compared_fields rank_of
compared_by a b =
    cases (well_formed a)
    (λ t. cases (well_formed b) (λ u. simp (t, u)) (λ u. simp (t, u)))
    (λ t. simp t)
