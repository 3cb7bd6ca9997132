-- Bytes stored in a memory (rules, 1.7).
-- Assumes nothing.
use Rattle.std.specs.Prelude.{ℕ, List, ◌++◌, length, take, drop}

-- a part with bytes in the place of its first ones
abbrev pub laid : (bytes part : List ℕ) → List ℕ
laid bytes part = bytes ++ drop (length bytes) part

-- a memory whose part from `place` on is changed
abbrev pub changed_from : (place : ℕ) (change : List ℕ → List ℕ) (memory : List ℕ) → List ℕ
changed_from place change memory = take place memory ++ change (drop place memory)

-- `count` bytes of a memory from `place` on
abbrev pub part_of : (place count : ℕ) (memory : List ℕ) → List ℕ
part_of place count memory = take count (drop place memory)
