-- What a sheet shows: of a valid file, at the place that its own sheet holds, the code; of any other file, nothing at any place.
-- Assumes nothing.
use Prim.Native.Nat.{ℕ, ◌+◌, ◌≤◌}
use mathlib.Core.Path.{◌≡◌, refl, ap}
use mathlib.Core.List.{List, []}
use mathlib.Core.Bool.{Bool, true, false, cond}
use native.Mathlib.Omega.{arith}
use lib.ListN.{length}
use borrow.Author.Tests.{le-leb}
use denote.Ref.{Bor}
use Rattle.wire.specs.Range.{lies_in}
use Rattle.image.specs.Header.{size_at, header_length, code_at}
use Rattle.image.specs.Valid.{is_valid, image_at}
use Rattle.image.proofs.Images.{valid-inside}
use Rattle.sheet.specs.declared.Code.{Code}
use Rattle.sheet.specs.Sheet.{place_of, code_in, code_place, lies_from, Shows}

-- where the code of a valid file lies
module _ (file : List ℕ) (valid : is_valid file 0 ≡ true) where
  placed-is : code_in file ≡ record { place = header_length; size = size_at file 0 }
  unfolding place_of image_at
  placed-is = simp valid

  place_is : code_place file ≡ header_length
  unfolding code_place
  place_is = ap (λ (x : Code). x.place) placed-is

  size_is : (code_in file).size ≡ size_at file 0
  size_is = ap (λ (x : Code). x.size) placed-is

  lies : lies_from file header_length ≡ true
  unfolding lies_from lies_in
  lies =
      let h : header_length + size_at file 0 ≤ 0 + length file = omega (arith, valid-inside file 0 valid) in
      rw (size_is, le-leb (header_length + size_at file 0) (0 + length file) h)

module _ (file part : Bor (List ℕ)) where
  pub sheet-shows-code : is_valid file.now 0 ≡ true → Shows file (code_place file.now) part → part.now ≡ code_at file.now 0
  sheet-shows-code valid shows = simp (lies file.now valid, place_is file.now valid, size_is file.now valid) at shows.bytes

  pub sheet-shows-nothing : (place : ℕ) → is_valid file.now 0 ≡ false → Shows file place part → part.now ≡ []
  unfolding place_of image_at
  sheet-shows-nothing place invalid shows = rw (none (lies_from file.now place)) at shows.bytes
    where
      none : (t : Bool) → cond t (code_in file.now).size 0 ≡ 0
      none true = simp invalid
      none false = refl
