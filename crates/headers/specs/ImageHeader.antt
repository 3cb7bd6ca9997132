-- The image header that is made for a code (rules, 9.4), or its refusal with 41, 42 or 61 (rules, 2.3).
-- Assumes nothing.
use Rattle.std.specs.Prelude.{ℕ, List, Result, Ok, Err, ◌∷◌, ◌++◌, cond, not, eqb, ltb, length, replicate}
use Rattle.numbers.specs.Number.{bytes_of}
use Rattle.crc.specs.Rule.{rule32}
use Rattle.crc.specs.Crc.{crc_of}
use Rattle.version.specs.Text.{well_formed}
use Rattle.version.specs.Rank.{malformed_text}
use Rattle.image.specs.Header.{header_length}
use Rattle.image.specs.Rule.{valid_flag, largest_size}
use Rattle.headers.specs.declared.Refusal.{Refusal}
use Rattle.headers.specs.declared.Refusal.TheVariants.{EmptyCode, LongCode, Malformed}
use Rattle.headers.specs.declared.ImageHeader.{ImageHeader}

-- the numbers given for no code, and for a code that is larger than an image's
abbrev pub empty_code : ℕ
empty_code = 41

abbrev pub long_code : ℕ
long_code = 42

abbrev pub refusal_number : Refusal → ℕ
refusal_number EmptyCode = empty_code
refusal_number LongCode = long_code
refusal_number Malformed = malformed_text

abbrev pub refused : (number : ℕ) → ImageHeader
refused number = record { number = number; bytes = replicate header_length 0 }

-- a header's bytes, or why there are none
abbrev pub header : Result (List ℕ) Refusal → ImageHeader
header (Ok bytes) = record { number = 0; bytes = bytes }
header (Err refusal) = refused (refusal_number refusal)

-- mark 70 51, flag, id, size 4, CRC 4, version 16, time 4, encrypted 1, reserved 31; it is not encrypted
abbrev pub header_bytes : (id size crc : ℕ) (version : List ℕ) (time : ℕ) → List ℕ
header_bytes id size crc version time =
    0x70 ∷ 0x51 ∷ valid_flag ∷ id ∷ bytes_of 4 size ++ bytes_of 4 crc ++ version ++ bytes_of 4 time ++ 0 ∷ replicate 31 0

unfoldable pub image_header_of : (code : List ℕ) (id : ℕ) (version : List ℕ) (time : ℕ) → ImageHeader
image_header_of code id version time =
    cond (eqb (length code) 0) (refused empty_code)
    (cond (ltb largest_size (length code)) (refused long_code)
    (cond (not (well_formed version)) (refused malformed_text)
    (record { number = 0; bytes = header_bytes id (length code) (crc_of rule32 code) version time })))
