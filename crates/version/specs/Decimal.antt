-- The number at a place of a version field (rules, 8.1): the digits that begin there, where they are a number.
-- Assumes nothing.
use Rattle.std.specs.Prelude.{ℕ, ◌+◌, List, [], ◌∷◌, cond, length, drop, Option}
use Rattle.std.specs.Bool.{then_some}
use Rattle.version.specs.declared.decimal.Decimal.{Decimal}
use Rattle.version.specs.Text.{is_digit, is_number, value}

-- the digits that bytes begin with
abbrev pub digits_of : List ℕ → List ℕ
digits_of [] = []
digits_of (b ∷ bs) = cond (is_digit b) (b ∷ digits_of bs) []

-- the number that digits from a place on write, and the place after them
abbrev pub decimal_of : (digits : List ℕ) (place : ℕ) → Option Decimal
decimal_of digits place = then_some (is_number digits) (record { value = value digits; end = place + length digits })

unfoldable pub decimal_at : (field : List ℕ) (place : ℕ) → Option Decimal
decimal_at field place = decimal_of (digits_of (drop place field)) place
