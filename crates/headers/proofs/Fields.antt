-- A version field: how long it is, and what it is laid between.
-- Assumes nothing.
use Prim.Native.Nat.{ℕ}
use mathlib.Core.Path.{◌≡◌}
use mathlib.Core.List.{List, ◌∷◌, append_assoc}
use mathlib.Core.Bool.{true}
use lib.ListN.{length, replicate}
use lib.Seq.{sets}
use borrow.Author.Tests.{eqb-true}
use borrow.Rule.Slice.PartMut.{mid_of, put_mid}
use Rattle.numbers.specs.Number.{bytes_of}
use Rattle.wire.proofs.Tests.{both_true}
use Rattle.memory.specs.Store.{laid}
use Rattle.version.specs.Text.{field_length, well_formed}
use Rattle.image.specs.Rule.{valid_flag}
use Rattle.headers.specs.ImageHeader.{header_bytes}

pub field-length : (version : List ℕ) → well_formed version ≡ true → length version ≡ field_length
unfolding well_formed
field-length version e = eqb-true (length version) field_length (both_true _ _ e).0

-- an image header whose version field is still 00
abbrev pub unversioned : (id size crc time : ℕ) → List ℕ
unversioned id size crc time =
    sets (sets (sets (0x70 ∷ 0x51 ∷ valid_flag ∷ id ∷ replicate 60 0) 4 (bytes_of 4 size)) 8 (bytes_of 4 crc)) 28 (bytes_of 4 time)

pub version-laid : (id size crc time : ℕ) (version : List ℕ) → length version ≡ field_length →
    let before = unversioned id size crc time in
    put_mid 12 52 before (laid version (mid_of 12 52 before)) ≡ header_bytes id size crc version time
version-laid id size crc time version e = simp (e, append_assoc)
