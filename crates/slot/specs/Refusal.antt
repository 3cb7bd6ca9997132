-- When a slot is refused (rules, 10.2): where flash length and product header are sound, exactly if neither image is valid, and then with
-- 53.
-- Assumes nothing.
use Rattle.std.specs.Prelude.{◌≡◌, ℕ, true, false, ◌↔◌, List, length}
use Rattle.wire.specs.Length.{is_flash_length}
use Rattle.image.specs.Valid.{is_valid}
use Rattle.slot.specs.Product.{product_inside, product_marked, first_offset, second_offset}
use Rattle.slot.specs.Slot.{no_image, refused, select_of}

abbrev pub NeitherValid : (flash : List ℕ) (offset : ℕ) → Type 0
NeitherValid flash offset = (is_valid flash (first_offset flash offset) ≡ false) × (is_valid flash (second_offset flash offset) ≡ false)

abbrev pub RefusedExactly : (flash : List ℕ) (offset : ℕ) → Type 0
RefusedExactly flash offset =
    is_flash_length (length flash) ≡ true
    → product_inside flash offset ≡ true
    → product_marked flash offset ≡ true
    → (((select_of flash offset).slot ≡ 0) ↔ NeitherValid flash offset)
    × (NeitherValid flash offset → select_of flash offset ≡ refused no_image)
