-- The definition shuts out a stuck selector, by what it gives for two flashes.
-- Assumes nothing.
use Rattle.std.proofs.Common.{◌≡◌, ℕ, List, ◌∷◌, ◌++◌, replicate, sym, refl, ap, ◌∙◌, arith}
use Rattle.wire.specs.Bytes.{Bytes}
use Rattle.numbers.specs.Number.{number_at}
use Rattle.wire.specs.Range.{lies_in}
use Rattle.wire.specs.Length.{is_flash_length}
use Rattle.wire.proofs.Bytes.{are-bytes}
use Rattle.crc.specs.Register.{leaving, moved, placed, after_bit, after_bits, after_byte, after}
use Rattle.crc.specs.Crc.{crc_of}
use Rattle.image.specs.Rule.{first_broken}
use Rattle.image.specs.Valid.{is_valid, image_at}
use Rattle.slot.specs.declared.Selected.{Selected}
use Rattle.slot.specs.Id.{is_newer}
use Rattle.slot.specs.Product.{product_inside, product_marked, product_at}
use Rattle.slot.specs.Slot.{starts, select_of}
use Rattle.slot.specs.Fakes.{Routine, Keeps, StuckOn, NobodyIsStuck}

-- a valid image with an id: version and time are 00, and so is its one byte of code, whose CRC-32 is D202EF8D
abbrev image_with : (id : ℕ) → List ℕ
image_with id = 0x70 ∷ 0x51 ∷ 0xAA ∷ id ∷ 0x01 ∷ 0x00 ∷ 0x00 ∷ 0x00 ∷ 0x8D ∷ 0xEF ∷ 0x02 ∷ 0xD2 ∷ replicate 53 0x00

-- a whole flash of 4,096 bytes: a product header that names the offsets 12 and 77, two valid images there, and FF after them
abbrev flash_with : (id id' : ℕ) → List ℕ
flash_with id id' =
    0x70 ∷ 0x52 ∷ 0x00 ∷ 0x00 ∷ 0x0C ∷ 0x00 ∷ 0x00 ∷ 0x00 ∷ 0x4D ∷ 0x00 ∷ 0x00 ∷ 0x00
    ∷ image_with id ++ image_with id' ++ replicate 3954 0xFF

both-start : (select_of (flash_with 10 9) 0 ≡ starts 1) × (select_of (flash_with 9 10) 0 ≡ starts 2)
unfolding number_at lies_in is_flash_length leaving moved placed after_bit after_bits after_byte after crc_of first_broken is_valid image_at product_inside product_marked product_at is_newer select_of
both-start = (refl, refl)

module _ (f : Routine) (slot : ℕ) (keeps : Keeps f) (stuck : StuckOn slot f) where
  -- where the definition names a slot, it is the one that the routine is stuck on
  named : (flash : List ℕ) (given : ℕ) → Bytes flash → select_of flash 0 ≡ starts given → given ≡ slot
  named flash given b e =
      let same = keeps flash 0 b (omega arith) ∙ e in
      sym (ap (λ (s : Selected). s.slot) same) ∙ stuck flash 0 b (omega arith) (ap (λ (s : Selected). s.number) same)

pub nobody-is-stuck : NobodyIsStuck
nobody-is-stuck f slot keeps stuck =
    omega (
      arith,
      named f slot keeps stuck (flash_with 10 9) 1 (are-bytes (flash_with 10 9) refl) both-start.0,
      named f slot keeps stuck (flash_with 9 10) 2 (are-bytes (flash_with 9 10) refl) both-start.1,
    )
