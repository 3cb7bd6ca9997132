-- What a product header says (rules, 10.1), or its refusal with 3, 51 or 52 (rules, 2.3).
-- Assumes nothing.
use Rattle.std.specs.Prelude.{ℕ, ◌+◌, Bool, Result, Ok, Err, cond, not, List, length}
use Rattle.numbers.specs.Number.{number_at}
use Rattle.wire.specs.Range.{lies_in}
use Rattle.wire.specs.Length.{is_flash_length, bad_flash}
use Rattle.image.specs.Header.{is_marked}
use Rattle.slot.specs.declared.product.Product.{Product}
use Rattle.slot.specs.declared.refused.Refusal.{Refusal}
use Rattle.slot.specs.declared.refused.Refusal.TheVariants.{BadFlash, NoHeader, WrongMark}

-- the numbers given for a product header that doesn't lie wholly in the flash, and for a wrong mark
abbrev pub no_header : ℕ
no_header = 51

abbrev pub wrong_mark : ℕ
wrong_mark = 52

-- the product header, 12 bytes: mark 70 52, a version of 2 bytes, two image offsets of 4; the version is not tested
abbrev pub product_length : ℕ
product_length = 12

unfoldable pub product_inside : (flash : List ℕ) (offset : ℕ) → Bool
product_inside flash offset = lies_in offset product_length 0 (length flash)

unfoldable pub product_marked : (flash : List ℕ) (offset : ℕ) → Bool
product_marked flash offset = is_marked flash offset 0x52

abbrev pub first_offset : (flash : List ℕ) (offset : ℕ) → ℕ
first_offset flash offset = number_at 4 flash (offset + 4)

abbrev pub second_offset : (flash : List ℕ) (offset : ℕ) → ℕ
second_offset flash offset = number_at 4 flash (offset + 8)

-- the flash offsets of the two images, or the first test that fails
unfoldable pub product_at : (flash : List ℕ) (offset : ℕ) → Result Product Refusal
product_at flash offset =
    cond (not (is_flash_length (length flash))) (Err BadFlash)
    (cond (not (product_inside flash offset)) (Err NoHeader)
    (cond (not (product_marked flash offset)) (Err WrongMark)
    (Ok (record { first = first_offset flash offset; second = second_offset flash offset }))))
