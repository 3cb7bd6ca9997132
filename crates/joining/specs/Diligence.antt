-- A schedule of calls on two joined machines that keeps calling both sides with room and all unread bytes shown ends, where both
-- definitions end (rules, 15.9).
-- Assumes nothing.
use Rattle.std.specs.Prelude.{ℕ, zero, suc, ◌≤◌, ◌≡◌, Bool, false, List, [], ◌∷◌, length}
use Rattle.machine.specs.Machine.{Machine}
use Rattle.joining.specs.Joint.{Both, begun, queue, Turn, on_left, on_right, turn, turns}
use Rattle.joining.specs.Schedules.{Still, Ends}
use Rattle.joining.specs.Rounds.{is_full, rounds, enough_rounds}

-- an action sends at most one byte, so that room for a byte is enough for it
abbrev pub Brief : {S : Type 0} → Machine ℕ S → Type 0
Brief {S} m = (s : S) (view : List ℕ) → length (m.says s view) ≤ 1

module _ {S K : Type 0} where
  abbrev pub left_full : Both S K → Turn → Bool
  left_full b (on_left shown room) = is_full (queue b.left b.right) shown room
  left_full b (on_right shown room) = false

  abbrev pub right_full : Both S K → Turn → Bool
  right_full b (on_left shown room) = false
  right_full b (on_right shown room) = is_full (queue b.right b.left) shown room

-- full calls in turn, so many rounds of them
abbrev pub alternating : (h r : List ℕ) → ℕ → List Turn
alternating h r zero = []
alternating h r (suc n) = on_left (length r) 1 ∷ on_right (length h) 1 ∷ alternating h r n

module _ {S K : Type 0} (m : Machine ℕ S) (k : Machine ℕ K) (s : S) (t : K) (h r : List ℕ) where
  -- a schedule has ended: neither side can act, and both are where their definitions end
  pub record Ended (ts : List Turn) : Type 0 where
    pub still : Still m k (turns m k (begun s t) ts)
    pub ends : Ends m k s t h r (turns m k (begun s t) ts)

  pub record Diligent : Type 0 where
    pub every_ends : (ts : List Turn) → enough_rounds h r ≤ rounds (turn m k) left_full right_full (begun s t) ts → Ended ts
    -- there are such schedules
    pub some_are : (n : ℕ) → rounds (turn m k) left_full right_full (begun s t) (alternating h r n) ≡ n
