-- Every list of calls on two joined sessions keeps to the bytes h and r, and no call of it is refused. A side that is over is where
-- its definition ends. The list can end only where both definitions end, and ends there if it keeps calling both sides with room and all
-- unread bytes shown (rules, 15.9).
-- Assumes nothing.
use Rattle.std.specs.Prelude.{ℕ, zero, suc, ◌≤◌, ◌≡◌, Bool, false, List, [], ◌∷◌, length}
use Rattle.machine.specs.Uncut.{uncut}
use Rattle.machine.specs.History.{Came}
use Rattle.machine.specs.Cuts.{Begins}
use Rattle.machine.specs.Session.{Session}
use Rattle.machine.specs.SessionClaim.{Starves}
use Rattle.joining.specs.Joint.{Both, begun}
use Rattle.joining.specs.Rounds.{is_full, rounds, enough_rounds}
use Rattle.joining.specs.Sides.{Side, Sides, waits, answered, Lending, on_left, on_right, lending, lendings, sides_of}

-- a session that can't go on with what waits for it: it lacks bytes, or is over
pub data Rests {M S : Type 0} (σ : Session ℕ M S) (side : Side M) (waiting : List ℕ) : Type 0 where
  starves : Starves (answered σ side waiting []) → Rests σ side waiting
  over : (answered σ side [] []).report.standing ≡ 3 → Rests σ side waiting

module _ {M N : Type 0} where
  abbrev pub left_full : Sides M N → Lending → Bool
  left_full b (on_left shown reply) = is_full (waits b.left b.right) shown (length reply)
  left_full b (on_right shown reply) = false

  abbrev pub right_full : Sides M N → Lending → Bool
  right_full b (on_left shown reply) = false
  right_full b (on_right shown reply) = is_full (waits b.right b.left) shown (length reply)

-- full calls in turn, so many rounds of them
abbrev pub alternating : (h r : List ℕ) → ℕ → List Lending
alternating h r zero = []
alternating h r (suc n) = on_left (length r) (0 ∷ []) ∷ on_right (length h) (0 ∷ []) ∷ alternating h r n

module _ {M N S K : Type 0} (σ : Session ℕ M S) (τ : Session ℕ N K) where
  -- neither side can go on
  pub record Resting (b : Sides M N) : Type 0 where
    pub left_rests : Rests σ b.left (waits b.left b.right)
    pub right_rests : Rests τ b.right (waits b.right b.left)

  module _ (s : S) (t : K) (h r : List ℕ) where
    -- both sides as the uncut definitions leave them
    abbrev pub end_sides : Sides M N
    end_sides = sides_of σ τ (record { left = uncut σ.machine s r; right = uncut τ.machine t h })

    pub record JoinedSides (b : Sides M N) : Type 0 where
      -- where both stand, led there by actions on the other's bytes
      pub reached : Both S K
      pub reached_is : b ≡ sides_of σ τ reached
      pub left_came : Came σ.machine s r reached.left
      pub right_came : Came τ.machine t h reached.right
      pub left_begins : Begins b.left.sent h
      pub right_begins : Begins b.right.sent r
      -- the next call is not refused, whatever it is lent
      pub left_accepts : (input reply : List ℕ) → (answered σ b.left input reply).report.number ≡ 0
      pub right_accepts : (input reply : List ℕ) → (answered τ b.right input reply).report.number ≡ 0
      -- a side that is over, as a call with no input and no room would report, is as its uncut definition leaves it, whatever the other
      -- has still to say
      pub left_over : (answered σ b.left [] []).report.standing ≡ 3 → b.left ≡ end_sides.left
      pub right_over : (answered τ b.right [] []).report.standing ≡ 3 → b.right ≡ end_sides.right
      pub at_end : Resting b → b ≡ end_sides

    abbrev pub EveryList : Type 0
    EveryList = (xs : List Lending) → JoinedSides (lendings σ τ (sides_of σ τ (begun s t)) xs)

    pub record ListEnded (xs : List Lending) : Type 0 where
      pub resting : Resting (lendings σ τ (sides_of σ τ (begun s t)) xs)
      pub ends : lendings σ τ (sides_of σ τ (begun s t)) xs ≡ end_sides

    pub record DiligentLists : Type 0 where
      pub every_ends : (xs : List Lending) → enough_rounds h r ≤ rounds (lending σ τ) left_full right_full (sides_of σ τ (begun s t)) xs → ListEnded xs
      -- there are such lists
      pub some_are : (n : ℕ) → rounds (lending σ τ) left_full right_full (sides_of σ τ (begun s t)) (alternating h r n) ≡ n
