-- Flash, in sectors of 4,096 bytes (rules, 1.2 and 1.7). A store leaves old AND new. An erasure sets every sector that touches the area
-- to FF.
-- Assumes nothing.
use Rattle.std.specs.Prelude.{ℕ, ◌+◌, ◌-◌, ◌*◌, ◌/◌, ◌<◌, ◌≤◌, ◌≡◌, true, List, [], ◌∷◌, replicate}
use Rattle.std.specs.Int.Bits.{bit_and}
use Rattle.wire.specs.Length.{sector_length, is_flash_length}
use Rattle.memory.specs.Store.{laid, changed_from}

-- a part of flash with bytes stored at its front
abbrev pub burnt : (bytes part : List ℕ) → List ℕ
burnt [] part = part
burnt (new ∷ bytes) [] = []
burnt (new ∷ bytes) (old ∷ part) = bit_and old new ∷ burnt bytes part

-- erased bytes
abbrev pub blank : (count : ℕ) → List ℕ
blank count = replicate count 0xFF

-- the sector of an offset
abbrev pub sector_of : (offset : ℕ) → ℕ
sector_of offset = offset / sector_length

-- how many sectors touch an area of 1 byte or more: those of its first byte, of its last, and all between
abbrev pub sectors_of : (offset size : ℕ) → ℕ
sectors_of offset size = sector_of (offset + size - 1) - sector_of offset + 1

-- flash with every sector erased that touches the area
unfoldable pub erased : (offset size : ℕ) (flash : List ℕ) → List ℕ
erased offset size flash = changed_from (sector_of offset * sector_length) (laid (blank (sectors_of offset size * sector_length))) flash

-- an area of 1 byte or more that lies in a flash of `total` bytes
pub record Area (offset size total : ℕ) : Type 0 where
  pub some : 0 < size
  pub inside : offset + size ≤ total
  pub flash_length : is_flash_length total ≡ true
