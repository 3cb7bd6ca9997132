-- Little-endian numbers of any width (rules, 1.6).
-- Assumes nothing.
use Rattle.std.specs.Prelude.{ℕ, zero, suc, ◌+◌, ◌*◌, ◌/◌, ◌%◌, List, [], ◌∷◌, cond, length, take, drop, leb, Option, Some, None}

-- the number that bytes make, the first byte lowest
abbrev pub number_of : List ℕ → ℕ
number_of [] = 0
number_of (b ∷ bs) = b + 256 * number_of bs

-- the number that a low part and a high byte make
abbrev pub paired : (low high : ℕ) → ℕ
paired low high = low + 256 * high

-- a number's lowest byte, and the one above it
abbrev pub low_byte : (n : ℕ) → ℕ
low_byte n = n % 256

abbrev pub high_byte : (n : ℕ) → ℕ
high_byte n = low_byte (n / 256)

-- the bytes that make a number, the lowest first
abbrev pub bytes_of : (width n : ℕ) → List ℕ
bytes_of zero n = []
bytes_of (suc width) n = low_byte n ∷ bytes_of width (n / 256)

-- the number in the `width` bytes from a place on
unfoldable pub number_at : (width : ℕ) (bytes : List ℕ) (place : ℕ) → ℕ
number_at width bytes place = number_of (take width (drop place bytes))

-- the same where all these bytes are there, and else that they are missing
unfoldable pub read_at : (width : ℕ) (bytes : List ℕ) (place : ℕ) → Option ℕ
read_at width bytes place = cond (leb (place + width) (length bytes)) (Some (number_at width bytes place)) None

-- the same of up to 4 bytes; of more, none
abbrev pub read_narrow : (width : ℕ) (bytes : List ℕ) (place : ℕ) → Option ℕ
read_narrow width bytes place = cond (leb width 4) (read_at width bytes place) None
