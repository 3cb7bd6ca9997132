-- Rounds of full calls bring both sides on, or neither side can go on.
-- Assumes nothing.
use Prim.Native.Nat.{ℕ, suc, ◌+◌, ◌≤◌, ◌<◌}
use native.Mathlib.Omega.{arith}
use native.Mathlib.Nat.{zero-add}
use mathlib.Core.Path.{◌≡◌, refl, ap, ◌∙◌}
use mathlib.Core.Bool.{Bool, true, false, ◌&&◌, ◌||◌, false≢true}
use mathlib.Core.List.{List, [], ◌∷◌, foldl}
use borrow.Table.Steps.{cases}
use Rattle.wire.proofs.Tests.{both_true}
use Rattle.joining.specs.Rounds.{rounds_from}

one_of : {P : Type 0} (a b : Bool) → (a ≡ true → P) → (b ≡ true → P) → (a || b) ≡ true → P
one_of true b f g e = f refl
one_of false b f g e = g e

-- how far both have come, and that the left one, or the right one, can't go on
module _ {B X : Type 0} (next : B → X → B) (on_left on_right : B → X → Bool) (come : B → ℕ) (LeftStops RightStops : B → Type 0) where
  -- a call brings them further; or it changes nothing, and if it was a full one its side can't go on
  pub data Brings (b : B) (x : X) : Type 0 where
    further : come b < come (next b x) → Brings b x
    nothing : next b x ≡ b → (on_left b x ≡ true → LeftStops b) → (on_right b x ≡ true → RightStops b) → Brings b x

  -- n rounds have brought them somewhere, or the sides that had a full call since then can't go on
  data After (left right : Bool) (b : B) (n : ℕ) : Type 0 where
    ahead : n < come b → After left right b n
    level : n ≤ come b → (left ≡ true → LeftStops b) → (right ≡ true → RightStops b) → After left right b n

  -- at the end of a list with n rounds
  pub data Ending (b : B) (n : ℕ) : Type 0 where
    stopped : LeftStops b → RightStops b → Ending b n
    going : n ≤ come b → Ending b n

  module _ (brings : (b : B) (x : X) → Brings b x) (stays : (b : B) (x : X) → LeftStops b → RightStops b → next b x ≡ b) where
    after_call : (left right : Bool) (b : B) (x : X) (n : ℕ) → Brings b x → After left right b n →
        After (left || on_left b x) (right || on_right b x) (next b x) n
    after_call left right b x n (further w) (ahead v) = ahead (omega arith)
    after_call left right b x n (further w) (level v f g) = ahead (omega arith)
    after_call left right b x n (nothing e p q) (ahead v) = rw e (ahead v)
    after_call left right b x n (nothing e p q) (level v f g) = rw e (level v (one_of left (on_left b x) f p) (one_of right (on_right b x) g q))

    stays-stopped : (b : B) (xs : List X) → LeftStops b → RightStops b → foldl next b xs ≡ b
    stays-stopped b [] f g = refl
    stays-stopped b (x ∷ xs) f g = ap (λ (c : B). foldl next c xs) (stays b x f g) ∙ stays-stopped b xs f g

    Rest : List X → Type 0
    Rest xs = (left right : Bool) (b : B) (n : ℕ) → After left right b n → Ending (foldl next b xs) (n + rounds_from next on_left on_right left right b xs)

    -- a round is complete
    complete : (b : B) (xs : List X) (n : ℕ) → Rest xs → After true true b n → Ending (foldl next b xs) (n + suc (rounds_from next on_left on_right false false b xs))
    unfolding Rest
    complete b xs n ih (ahead v) =
        let moved : suc n + rounds_from next on_left on_right false false b xs ≡ n + suc (rounds_from next on_left on_right false false b xs) = omega arith in
        rw (← moved) (ih false false b (suc n) (level v (λ e. absurd (false≢true e)) (λ e. absurd (false≢true e))))
    complete b xs n ih (level v f g) = rw (stays-stopped b xs (f refl) (g refl)) (stopped (f refl) (g refl))

    rest_of : (xs : List X) → Rest xs
    unfolding Rest rounds_from
    rest_of [] left right b n (ahead v) = going (omega arith)
    rest_of [] left right b n (level v f g) = going (omega arith)
    rest_of (x ∷ xs) left right b n a =
        let a' = after_call left right b x n (brings b x) a in
        cases ((left || on_left b x) && (right || on_right b x))
        (λ t. let both = both_true (left || on_left b x) (right || on_right b x) t in rw t (complete (next b x) xs n (rest_of xs) (rw (both.0, both.1) at a')))
        (λ f. rw f (rest_of xs (left || on_left b x) (right || on_right b x) (next b x) n a'))

    pub rounds-bring : (b : B) (xs : List X) → Ending (foldl next b xs) (rounds_from next on_left on_right false false b xs)
    unfolding Rest
    rounds-bring b xs = rw (← zero-add (rounds_from next on_left on_right false false b xs)) (rest_of xs false false b 0 (level (omega arith) (λ e. absurd (false≢true e)) (λ e. absurd (false≢true e))))
