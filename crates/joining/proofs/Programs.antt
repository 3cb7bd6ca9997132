-- What a program's calls on two joined sessions gave back is what the definition's list of calls gives.
-- Assumes nothing.
use Prim.Native.Nat.{ℕ}
use mathlib.Core.Path.{◌≡◌, refl, sym, ap, subst, ◌∙◌}
use mathlib.Core.List.{List, [], ◌∷◌}
use Rattle.machine.specs.Lawful.{Every}
use Rattle.machine.specs.Session.{Session}
use Rattle.joining.specs.Sides.{Sides, Lending, on_left, on_right, lending, lendings}
use Rattle.joining.specs.Lists.{JoinedSides, EveryList, DiligentLists}
use Rattle.joining.specs.Programs.{Returned, having_returned, number_of, returned_of, MadeSides, none, next, EveryProgram}

module _ {M N S K : Type 0} (σ : Session ℕ M S) (τ : Session ℕ N K) where
  returned-is : (b : Sides M N) (x : Lending) → having_returned b (returned_of σ τ b x) ≡ lending σ τ b x
  returned-is b (on_left shown reply) = refl
  returned-is b (on_right shown reply) = refl

  step_is : (b : Sides M N) (x : Lending) (a : Returned M N) → a ≡ returned_of σ τ b x → having_returned b a ≡ lending σ τ b x
  step_is b x a e = ap (having_returned b) e ∙ returned-is b x

  made-is : {b last : Sides M N} {xs : List Lending} {given : List (Returned M N)} → MadeSides σ τ b xs given last → last ≡ lendings σ τ b xs
  made-is none = refl
  made-is {b} (next {x = x} {later = later} {a = a} e l) = made-is l ∙ ap (λ (c : Sides M N). lendings σ τ c later) (step_is b x a e)

  module _ (s : S) (t : K) (h r : List ℕ) where
    number_is : (b : Sides M N) (x : Lending) → JoinedSides σ τ s t h r b → number_of (returned_of σ τ b x) ≡ 0
    number_is b (on_left shown reply) j = j.left_accepts _ reply
    number_is b (on_right shown reply) j = j.right_accepts _ reply

    -- all that follows on calls which the definition accepts is accepted
    accepted : {b last : Sides M N} {xs : List Lending} {given : List (Returned M N)} → ((ys : List Lending) → JoinedSides σ τ s t h r (lendings σ τ b ys)) →
        MadeSides σ τ b xs given last → Every (λ (a : Returned M N). number_of a ≡ 0) given
    accepted every none = tt
    accepted {b} every (next {x = x} {a = a} e l) =
        (ap number_of e ∙ number_is b x (every []), accepted (λ ys. subst (λ (c : Sides M N). JoinedSides σ τ s t h r (lendings σ τ c ys)) (sym (step_is b x a e)) (every (x ∷ ys))) l)

    pub every-program : EveryList σ τ s t h r → DiligentLists σ τ s t h r → EveryProgram σ τ s t h r
    every-program lists diligent xs given last w =
        record {
          no_refusal = accepted lists w;
          joined = subst (JoinedSides σ τ s t h r) (sym (made-is w)) (lists xs);
          every_ends = λ n. made-is w ∙ (diligent.every_ends xs n).ends;
        }
