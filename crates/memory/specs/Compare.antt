-- Bytes compared with those in a memory (rules, 1.7).
-- Assumes nothing.
use Rattle.std.specs.Prelude.{ℕ, Bool, true, false, ◌&&◌, List, [], ◌∷◌, eqb}

-- a part of a memory begins with these bytes
abbrev pub is_front : (bytes part : List ℕ) → Bool
is_front [] part = true
is_front (byte ∷ bytes) [] = false
is_front (byte ∷ bytes) (there ∷ part) = eqb there byte && is_front bytes part
