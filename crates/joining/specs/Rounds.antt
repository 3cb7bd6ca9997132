-- How often both sides of a line have been called with room for a byte and shown all that waits for them (rules, 15.9).
-- Assumes nothing.
use Rattle.std.specs.Prelude.{ℕ, suc, ◌+◌, ◌*◌, Bool, false, cond, ◌&&◌, ◌||◌, List, [], ◌∷◌, leb, ltb, length}

-- a call is full if it has room for a byte and is shown all that waits
abbrev pub is_full : (waiting : List ℕ) (shown room : ℕ) → Bool
is_full waiting shown room = ltb 0 room && leb (length waiting) shown

-- lists of calls X on states B of both sides, and which calls are full ones on the left and on the right
module _ {B X : Type 0} (next : B → X → B) (on_left on_right : B → X → Bool) where
  -- `left` and `right`: that side has had a full call since the last round was complete. Other calls may stand anywhere between
  unfoldable pub rounds_from : (left right : Bool) → B → List X → ℕ
  rounds_from left right b [] = 0
  rounds_from left right b (x ∷ xs) =
      let left' = left || on_left b x in
      let right' = right || on_right b x in
      cond (left' && right') (suc (rounds_from false false (next b x) xs)) (rounds_from left' right' (next b x) xs)

  abbrev pub rounds : B → List X → ℕ
  rounds b xs = rounds_from false false b xs

-- so many rounds are enough for h and r: each byte is sent once and taken once, and either side may stop
abbrev pub enough_rounds : (h r : List ℕ) → ℕ
enough_rounds h r = 2 * (length h + length r) + 2
