-- The rank of a version field: four numbers, missing ones 0 (rules, 8.2), or its refusal with 61 (rules, 2.3).
-- Assumes nothing.
use Rattle.std.specs.Prelude.{ℕ, ◌-◌, List, ◌++◌, map, length, replicate, Option, Some, None}
use Rattle.std.specs.Bool.{then_some}
use Rattle.version.specs.declared.rank.Ranked.{Ranked}
use Rattle.version.specs.Text.{text, parts, value, most_numbers, well_formed}

-- how many numbers a rank has
abbrev pub rank_length : ℕ
rank_length = most_numbers

-- missing numbers are 0
abbrev pub filled : List ℕ → List ℕ
filled numbers = numbers ++ replicate (rank_length - length numbers) 0

-- the number given for malformed text, or a field that isn't 16 bytes long
abbrev pub malformed_text : ℕ
malformed_text = 61

abbrev pub refused : Ranked
refused = record { number = malformed_text; rank = replicate rank_length 0 }

-- the rank of a well-formed field
abbrev pub numbers_of : List ℕ → Option (List ℕ)
numbers_of field = then_some (well_formed field) (filled (map value (parts (text field))))

-- the same beside a number
abbrev pub ranked : Option (List ℕ) → Ranked
ranked None = refused
ranked (Some rank) = record { number = 0; rank = rank }

unfoldable pub rank_of : List ℕ → Ranked
rank_of field = ranked (numbers_of field)
