-- Version text (rules, 8.1): what is before the first 00 of a field, taken apart at its dots.
-- Assumes nothing.
use Rattle.std.specs.Prelude.{ℕ, ◌+◌, ◌*◌, ◌-◌, List, [], ◌∷◌, Bool, true, false, cond, not, ◌&&◌, eqb, leb, length}

-- the text of a field: its bytes before the first 00
abbrev pub text : List ℕ → List ℕ
text [] = []
text (b ∷ bs) = cond (eqb b 0) [] (b ∷ text bs)

-- and its padding: the bytes from the first 00 on
abbrev pub padding : List ℕ → List ℕ
padding [] = []
padding (b ∷ bs) = cond (eqb b 0) (b ∷ bs) (padding bs)

abbrev pub all_zero : List ℕ → Bool
all_zero [] = true
all_zero (b ∷ bs) = eqb b 0 && all_zero bs

-- the byte between two parts of a text
abbrev pub dot : ℕ
dot = 0x2E

-- the part before the first dot, and the parts after it
abbrev pub first_part : List ℕ → List ℕ
first_part [] = []
first_part (b ∷ bs) = cond (eqb b dot) [] (b ∷ first_part bs)

abbrev pub later_parts : List ℕ → List (List ℕ)
later_parts [] = []
later_parts (b ∷ bs) = cond (eqb b dot) (first_part bs ∷ later_parts bs) (later_parts bs)

-- the parts between dots; a text without a dot is one part
abbrev pub parts : List ℕ → List (List ℕ)
parts t = first_part t ∷ later_parts t

-- the digits 0 to 9
abbrev pub is_digit : ℕ → Bool
is_digit b = leb 0x30 b && leb b 0x39

abbrev pub all_digits : List ℕ → Bool
all_digits [] = true
all_digits (b ∷ bs) = is_digit b && all_digits bs

-- the value of digits that follow others, whose value is v
abbrev pub value_from : ℕ → List ℕ → ℕ
value_from v [] = v
value_from v (b ∷ bs) = value_from (v * 10 + (b - 0x30)) bs

-- the decimal number that a part writes
abbrev pub value : List ℕ → ℕ
value part = value_from 0 part

abbrev pub is_empty : List ℕ → Bool
is_empty [] = true
is_empty (b ∷ bs) = false

-- a 0 with something after it
abbrev pub leading_zero : List ℕ → Bool
leading_zero [] = false
leading_zero (b ∷ bs) = eqb b 0x30 && not (is_empty bs)

-- the largest number in a version
abbrev pub largest : ℕ
largest = 65535

unfoldable pub is_number : List ℕ → Bool
is_number part = not (is_empty part) && (all_digits part && (not (leading_zero part) && leb (value part) largest))

abbrev pub all_numbers : List (List ℕ) → Bool
all_numbers [] = true
all_numbers (p ∷ ps) = is_number p && all_numbers ps

-- how many bytes a field has
abbrev pub field_length : ℕ
field_length = 16

-- how many numbers a text has at most
abbrev pub most_numbers : ℕ
most_numbers = 4

-- a field of 16 bytes, with at most four parts, each a number, and only 00 after them
unfoldable pub well_formed : List ℕ → Bool
well_formed field =
    eqb (length field) field_length
    && (all_zero (padding field)
    && (leb (length (parts (text field))) most_numbers
    && all_numbers (parts (text field))))
