-- The slot that will start (rules, 10.2), or its refusal with 3, 51, 52 or 53 (rules, 2.3).
-- Assumes nothing.
use Rattle.std.specs.Prelude.{ℕ, Option, Some, None, Result, Ok, Err, cond, List}
use Rattle.wire.specs.Length.{bad_flash}
use Rattle.image.specs.declared.Image.{Image}
use Rattle.image.specs.Valid.{image_at}
use Rattle.slot.specs.declared.product.Product.{Product}
use Rattle.slot.specs.declared.refused.Refusal.{Refusal}
use Rattle.slot.specs.declared.refused.Refusal.TheVariants.{BadFlash, NoHeader, WrongMark, NoImage}
use Rattle.slot.specs.declared.Selected.{Selected}
use Rattle.slot.specs.Id.{is_newer}
use Rattle.slot.specs.Product.{no_header, wrong_mark, product_at}

-- the number given for no valid image
abbrev pub no_image : ℕ
no_image = 53

-- the number of a refusal, of the product header's or of the slot's
abbrev pub refusal_number : Refusal → ℕ
refusal_number BadFlash = bad_flash
refusal_number NoHeader = no_header
refusal_number WrongMark = wrong_mark
refusal_number NoImage = no_image

abbrev pub refused : (number : ℕ) → Selected
refused number = record { number = number; slot = 0 }

abbrev pub starts : (slot : ℕ) → Selected
starts slot = record { number = 0; slot = slot }

-- a slot, or why none starts
abbrev pub selected : Result ℕ Refusal → Selected
selected (Ok slot) = starts slot
selected (Err refusal) = refused (refusal_number refusal)

-- of two valid images the newer starts, and slot 1 where neither is newer
abbrev pub chosen : (first second : Option Image) → Selected
chosen (Some first) (Some second) = starts (cond (is_newer second.id first.id) 2 1)
chosen (Some first) None = starts 1
chosen None (Some second) = starts 2
chosen None None = refused no_image

-- by what the product header says; where that is refused, the slot is refused with the same number
abbrev pub slot_by : (flash : List ℕ) → Result Product Refusal → Selected
slot_by flash (Ok product) = chosen (image_at flash product.first) (image_at flash product.second)
slot_by flash (Err refusal) = refused (refusal_number refusal)

-- the slot that starts, by the product header at an offset
unfoldable pub select_of : (flash : List ℕ) (offset : ℕ) → Selected
select_of flash offset = slot_by flash (product_at flash offset)
