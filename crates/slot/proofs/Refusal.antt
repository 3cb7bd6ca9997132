-- A slot is refused exactly if neither image is valid.
-- Assumes nothing.
use Rattle.std.proofs.Common.{◌≡◌, ℕ, Bool, true, false, cond, ◌↔◌, List, refl, arith}
use Rattle.std.specs.Prelude.{Option, Some, None}
use Rattle.image.specs.declared.Image.{Image}
use Rattle.image.specs.Header.{id_at, size_at}
use Rattle.image.specs.Valid.{is_valid, image_at}
use Rattle.slot.specs.Id.{is_newer}
use Rattle.slot.specs.Product.{first_offset, second_offset, product_at}
use Rattle.slot.specs.Slot.{chosen, no_image, refused, select_of}
use Rattle.slot.specs.Refusal.{RefusedExactly}

-- an image by whether it is valid
abbrev image : Bool → (id size : ℕ) → Option Image
image valid id size = cond valid (Some (record { id = id; size = size })) None

slot-zero : (t : Bool) → cond {A = ℕ} t 2 1 ≡ 0 → ⊥
slot-zero true e = omega (arith, e)
slot-zero false e = omega (arith, e)

by-images : (v w : Bool) (i m j n : ℕ) → ((chosen (image v i m) (image w j n)).slot ≡ 0) ↔ ((v ≡ false) × (w ≡ false))
by-images true true i m j n = (λ e. absurd (slot-zero (is_newer j i) e), λ e. let z : ◌≡◌ {A = ℕ} 0 1 = cc in omega arith)
by-images true false i m j n = (λ e. absurd (omega (arith, e)), λ e. let z : ◌≡◌ {A = ℕ} 0 1 = cc in omega arith)
by-images false true i m j n = (λ e. absurd (omega (arith, e)), λ e. let z : ◌≡◌ {A = ℕ} 0 1 = cc in omega arith)
by-images false false i m j n = (λ e. (refl, refl), λ e. refl)

no-images : (v w : Bool) (i m j n : ℕ) → (v ≡ false) × (w ≡ false) → chosen (image v i m) (image w j n) ≡ refused no_image
no-images v w i m j n e = simp (e.0, e.1)

pub refused-exactly : (flash : List ℕ) (offset : ℕ) → RefusedExactly flash offset
unfolding product_at select_of image_at
refused-exactly flash offset sound inside marked =
    let a = first_offset flash offset in
    let b = second_offset flash offset in
    simp (sound, inside, marked) (
      by-images (is_valid flash a) (is_valid flash b) (id_at flash a) (size_at flash a) (id_at flash b) (size_at flash b),
      no-images (is_valid flash a) (is_valid flash b) (id_at flash a) (size_at flash a) (id_at flash b) (size_at flash b),
    )
