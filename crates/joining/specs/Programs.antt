-- What a program's calls on two joined sessions gave back, each as the definition says, with the record and the memories that the last
-- call on that side left: what is claimed of lists of calls holds of them (rules, 15.9).
-- Assumes nothing.
use Rattle.std.specs.Prelude.{ℕ, ◌≤◌, ◌≡◌, List, [], ◌∷◌, take}
use Rattle.machine.specs.Lawful.{Every}
use Rattle.machine.specs.Session.{Session, GivenBack}
use Rattle.joining.specs.Joint.{begun}
use Rattle.joining.specs.Rounds.{rounds, enough_rounds}
use Rattle.joining.specs.Sides.{Sides, waits, answered, having, Lending, on_left, on_right, lending, sides_of}
use Rattle.joining.specs.Lists.{left_full, right_full, JoinedSides, end_sides}

-- what a call gave back
pub data Returned (M N : Type 0) : Type 0 where
  by_left : GivenBack M → Returned M N
  by_right : GivenBack N → Returned M N

module _ {M N : Type 0} where
  -- both sides after a call that gave this back
  abbrev pub having_returned : Sides M N → Returned M N → Sides M N
  having_returned b (by_left a) = record { left = having b.left a; right = b.right }
  having_returned b (by_right a) = record { left = b.left; right = having b.right a }

  abbrev pub number_of : Returned M N → ℕ
  number_of (by_left a) = a.report.number
  number_of (by_right a) = a.report.number

module _ {M N S K : Type 0} (σ : Session ℕ M S) (τ : Session ℕ N K) where
  -- what the definition says that a call gives back
  abbrev pub returned_of : Sides M N → Lending → Returned M N
  returned_of b (on_left shown reply) = by_left (answered σ b.left (take shown (waits b.left b.right)) reply)
  returned_of b (on_right shown reply) = by_right (answered τ b.right (take shown (waits b.right b.left)) reply)

  -- from b on, the calls of a list gave this back, and the last of them left both sides so
  pub data MadeSides : Sides M N → List Lending → List (Returned M N) → Sides M N → Type 0 where
    none : {b : Sides M N} → MadeSides b [] [] b
    next : {b last : Sides M N} {x : Lending} {later : List Lending} {a : Returned M N} {others : List (Returned M N)} →
        a ≡ returned_of b x → MadeSides (having_returned b a) later others last → MadeSides b (x ∷ later) (a ∷ others) last

  module _ (s : S) (t : K) (h r : List ℕ) where
    pub record MadeHolds (xs : List Lending) (given : List (Returned M N)) (last : Sides M N) : Type 0 where
      pub no_refusal : Every (λ (a : Returned M N). number_of a ≡ 0) given
      pub joined : JoinedSides σ τ s t h r last
      pub every_ends : enough_rounds h r ≤ rounds (lending σ τ) left_full right_full (sides_of σ τ (begun s t)) xs → last ≡ end_sides σ τ s t h r

    abbrev pub EveryProgram : Type 0
    EveryProgram = (xs : List Lending) (given : List (Returned M N)) (last : Sides M N) → MadeSides (sides_of σ τ (begun s t)) xs given last → MadeHolds xs given last
