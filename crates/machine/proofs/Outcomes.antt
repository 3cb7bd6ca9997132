-- Outcomes joined one after the other; a test and what follows where it passes.
-- Assumes nothing.
use native.Mathlib.Nat.{zero-add, add-zero, add_assoc}
use mathlib.Core.Path.{◌≡◌, refl}
use mathlib.Core.Bool.{Bool, true, false, cond}
use mathlib.Core.List.{append-nil, append_assoc}
use Rattle.machine.specs.Outcome.{Outcome, halt, join}

module _ {S : Type 0} where
  pub join-assoc : (a b c : Outcome S) → join (join a b) c ≡ join a (join b c)
  join-assoc a b c = simp (append_assoc, add_assoc)

  pub halt-join : (s : S) (o : Outcome S) → join (halt s) o ≡ o
  halt-join s o = simp zero-add

  pub join-halt : (o : Outcome S) → join o (halt o.final) ≡ o
  join-halt o = simp (append-nil, add-zero)

-- two tests with the same refusal, and equal where they pass
pub cond_same : {A : Type 0} (t : Bool) (a b c : A) → (t ≡ true → a ≡ b) → cond t a c ≡ cond t b c
cond_same true a b c h = h refl
cond_same false a b c h = refl
