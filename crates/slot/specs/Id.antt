-- Image ids (rules, 10.3): the one that follows another, and which of two is the newer.
-- Assumes nothing.
use Rattle.std.specs.Prelude.{ℕ, ◌+◌, ◌%◌, Bool, true, false, cond, ◌==◌, nat_lt}

-- an id is a byte, and 255 is followed by 0
abbrev pub next_id : (id : ℕ) → ℕ
next_id id = (id + 1) % 256

-- whether an id is the one that follows another
abbrev pub follows : (id other : ℕ) → Bool
follows id other = id == next_id other

-- where one of two ids follows the other, it is the newer; of any other two the larger
unfoldable pub is_newer : (id than : ℕ) → Bool
is_newer id than =
    cond (follows id than) true
    (cond (follows than id) false
    (nat_lt than id))
