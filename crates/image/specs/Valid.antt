-- Which images are valid (rules, 9.2). For a file the offset is 0 and the memory is the file.
-- Assumes nothing.
use Rattle.std.specs.Prelude.{ℕ, List, Bool, Option, Some, None, cond, eqb}
use Rattle.image.specs.declared.Image.{Image}
use Rattle.image.specs.Header.{id_at, size_at}
use Rattle.image.specs.Rule.{rule_number, first_broken}

-- it breaks no rule
unfoldable pub is_valid : (memory : List ℕ) (offset : ℕ) → Bool
is_valid memory offset = eqb (rule_number (first_broken memory offset)) 0

-- a valid image with its id and size, or that there is none
unfoldable pub image_at : (memory : List ℕ) (offset : ℕ) → Option Image
image_at memory offset = cond (is_valid memory offset) (Some (record { id = id_at memory offset; size = size_at memory offset })) None
