-- RAM addresses and flash offsets, two separate units (rules, 1.1 and 1.4).
-- Assumes nothing.
use Rattle.std.specs.Prelude.{ℕ, Bool, Option}
use Rattle.wire.specs.declared.unit.RamAddress.{RamAddress}
use Rattle.wire.specs.declared.unit.FlashOffset.{FlashOffset}
use Rattle.wire.specs.Range.{lies_in, place_in}

-- RAM's first address
abbrev pub ram_base : ℕ
ram_base = 0x07FC_0000

abbrev pub first_address : RamAddress
first_address = record { 0 = ram_base }

-- where `count` bytes from a RAM address on lie in `ram` bytes of RAM
abbrev pub ram_place : RamAddress → (count ram : ℕ) → Option ℕ
ram_place address count ram = place_in address.0 count ram_base ram

-- the byte at a RAM address lies in `ram` bytes of RAM
abbrev pub is_in_ram : RamAddress → (ram : ℕ) → Bool
is_in_ram address ram = lies_in address.0 1 ram_base ram

-- where `count` bytes from a flash offset on lie in `flash` bytes of flash
abbrev pub flash_place : FlashOffset → (count flash : ℕ) → Option ℕ
flash_place offset count flash = place_in offset.0 count 0 flash
