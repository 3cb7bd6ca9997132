-- What a program can be lent, as natural numbers: bytes, and words of 32 bits.
-- Assumes nothing.
use Rattle.std.specs.Prelude.{ℕ, ◌^◌, ◌<◌, List, [], ◌∷◌}

abbrev pub Byte : ℕ → Type 0
Byte b = b < 256

abbrev pub Bytes : List ℕ → Type 0
Bytes [] = Unit {0}
Bytes (b ∷ bs) = Byte b × Bytes bs

abbrev pub Word : ℕ → Type 0
Word n = n < 2 ^ 32
