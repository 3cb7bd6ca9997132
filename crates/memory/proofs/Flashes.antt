-- Laws of flash: lengths, and the sectors of an area.
-- Assumes nothing.
use Prim.Native.Nat.{ℕ, suc, ◌+◌, ◌-◌, ◌*◌, ◌≤◌}
use mathlib.Core.Path.{◌≡◌, refl, ap}
use mathlib.Core.List.{List, [], ◌∷◌}
use native.Mathlib.Omega.{arith}
use lib.ListN.{length, drop, length-drop, length-replicate}
use borrow.Rule.Slice.PartMut.{put_mid, mid_of, mid_len}
use Rattle.wire.specs.Length.{sector_length}
use Rattle.wire.proofs.Lengths.{flash-bounds}
use Rattle.memory.specs.Store.{laid}
use Rattle.memory.specs.Flash.{burnt, blank, sector_of, sectors_of, erased, Area}
use Rattle.memory.proofs.Stores.{changed-length, laid-length}

pub burnt-length : (bytes part : List ℕ) → length (burnt bytes part) ≡ length part
burnt-length [] part = refl
burnt-length (new ∷ bytes) [] = refl
burnt-length (new ∷ bytes) (old ∷ part) = ap suc (burnt-length bytes part)

module _ (offset size : ℕ) (flash : List ℕ) (area : Area offset size (length flash)) where
  -- the sectors that touch an area lie in flash
  pub sectors-in : sector_of offset * sector_length + sectors_of offset size * sector_length ≤ length flash
  sectors-in = omega (arith, (flash-bounds (length flash) area.flash_length).0)

  pub erased-length : length (erased offset size flash) ≡ length flash
  unfolding erased
  erased-length =
      let many = sectors_of offset size * sector_length in
      let start = sector_of offset * sector_length in
      let fits : length (blank many) ≤ length (drop start flash) = rw (length-replicate, length-drop) (omega (arith, sectors-in)) in
      changed-length flash start (laid (blank many)) (laid-length (blank many) (drop start flash) fits)

  -- the part that is wiped, put back
  pub erased-part : (start past : ℕ) → start ≡ sector_of offset * sector_length → past ≡ (sector_of (offset + size - 1) + 1) * sector_length
      → put_mid start (past - start) flash (blank (length (mid_of start (past - start) flash))) ≡ erased offset size flash
  unfolding erased
  erased-part start past e f =
      let many : past - start ≡ sectors_of offset size * sector_length = omega arith in
      let fits : past ≤ length flash = omega (arith, sectors-in) in
      rw (mid_len start past flash fits, many, length-replicate, e)
