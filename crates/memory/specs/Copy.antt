-- Bytes copied as far as they are there and have places (rules, 1.7): code and payload as they arrive, an answer as far as there is
-- room.
-- Assumes nothing.
use Rattle.std.specs.Prelude.{ℕ, ◌-◌, min, ◌≡◌, List, length, drop}
use Rattle.std.proofs.Math.Seq.{paste}

-- `count` bytes of the source from byte i on went to a memory's places from `place` up to `end`
pub record Copied (source : List ℕ) (i : ℕ) (old : List ℕ) (place end : ℕ) (new : List ℕ) (count : ℕ) : Type 0 where
  pub count_is : count ≡ min (end - place) (length source - i)
  pub memory_is : new ≡ paste old place (drop i source) count
