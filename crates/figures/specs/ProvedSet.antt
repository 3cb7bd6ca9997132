-- The proved set (rules, 13.1): figures that the definitions must give, as one table and one statement.
-- Assumes nothing.
use Rattle.std.specs.Prelude.{ℕ, ◌-◌, ◌≡◌, List, [], ◌∷◌, ◌++◌, pos, negsuc, length, replicate}
use Rattle.crc.specs.Rule.{rule16, rule32}
use Rattle.crc.specs.Crc.{crc_of}
use Rattle.version.specs.Rank.{rank_of}
use Rattle.version.specs.Order.{order_of}
use Rattle.slot.specs.Slot.{select_of}
use Rattle.headers.specs.ProductHeader.{product_header_of}
use Rattle.headers.specs.ImageHeader.{image_header_of}
use Rattle.machine.specs.Uncut.{uncut}
use Rattle.rom_flow.specs.declared.kind.Kind.TheVariants.{P, E}
use Rattle.rom_flow.specs.declared.step.Step.TheVariants.{TakeCode, Running}
use Rattle.wire.specs.Unit.{first_address}
use Rattle.rom_flow.specs.Receiver.{receiver}
use Rattle.rom_flow.specs.Fresh.{fresh}
use Rattle.rom_record.specs.Record.{written}
use Rattle.memory.specs.Flash.{burnt, blank}
use Rattle.opcodes.specs.declared.Opcode.TheVariants.{Erase}
use Rattle.command_execution.specs.declared.Ending.TheVariants.{Silent}
use Rattle.memory.specs.Memories.{Memories, memories}
use Rattle.command_execution.specs.Execution.{executed}
use Rattle.uartboot_flow.specs.declared.step.Step.TheVariants.{Header}
use Rattle.uartboot_flow.specs.declared.step.HeaderStep.TheVariants as uartboot-step
use Rattle.uartboot_record.specs.Record as uartboot-record
use Rattle.sessions.specs.Kind.{rom_p, uartboot}
use Rattle.sessions.specs.Definition.{definition}

infix 10 ◌is◌
-- what a definition gives, and what it must give
pub data Figure : Type 1 where
  ◌is◌ : {A : Type 0} → A → A → Figure

-- all figures hold
abbrev pub AllHold : List Figure → Type 0
AllHold [] = Unit {0}
AllHold ((given is said) ∷ figures) = (given ≡ said) × AllHold figures

-- a version's text with 00 up to byte 16
abbrev padded : List ℕ → List ℕ
padded text = text ++ replicate (16 - length text) 0

-- 1.9, 1.10, 1.9.0, 01.2, 65535.65535.6553
abbrev v1_9 : List ℕ
v1_9 = padded (0x31 ∷ 0x2E ∷ 0x39 ∷ [])

abbrev v1_10 : List ℕ
v1_10 = padded (0x31 ∷ 0x2E ∷ 0x31 ∷ 0x30 ∷ [])

abbrev v1_9_0 : List ℕ
v1_9_0 = padded (0x31 ∷ 0x2E ∷ 0x39 ∷ 0x2E ∷ 0x30 ∷ [])

abbrev v01_2 : List ℕ
v01_2 = padded (0x30 ∷ 0x31 ∷ 0x2E ∷ 0x32 ∷ [])

abbrev v65535_65535_6553 : List ℕ
v65535_65535_6553 =
    0x36 ∷ 0x35 ∷ 0x35 ∷ 0x33 ∷ 0x35 ∷ 0x2E ∷ 0x36 ∷ 0x35 ∷ 0x35 ∷ 0x33 ∷ 0x35 ∷ 0x2E ∷ 0x36 ∷ 0x35 ∷ 0x35 ∷ 0x33 ∷ []

-- the bytes of 123456789
abbrev digits : List ℕ
digits = 0x31 ∷ 0x32 ∷ 0x33 ∷ 0x34 ∷ 0x35 ∷ 0x36 ∷ 0x37 ∷ 0x38 ∷ 0x39 ∷ []

-- a RAM of the largest length
abbrev whole_ram : List ℕ
whole_ram = replicate 131072 0

-- a device with the smallest memories
abbrev device : Memories
device = memories (0x00 ∷ []) (replicate 4096 0xFF) (replicate 64 0x00)

-- an image with an id, version 1.9 and one byte of code, 65 bytes in all
abbrev image_with : (id : ℕ) → List ℕ
image_with id = (image_header_of (0x00 ∷ []) id v1_9 0).bytes ++ 0x00 ∷ []

-- a flash of 4,096 bytes: a product header at 0 that names the offsets 12 and 77, an image with each id there, and FF after them
abbrev flash_with : (id id' : ℕ) → List ℕ
flash_with id id' = (product_header_of 12 77).bytes ++ image_with id ++ image_with id' ++ replicate 3954 0xFF

-- a device with a flash, and in its work buffer the 8 bytes of an Erase's payload: offset 4,095, size 2
abbrev erasing : (flash : List ℕ) → Memories
erasing flash = memories (0x00 ∷ []) flash (0xFF ∷ 0x0F ∷ 0x00 ∷ 0x00 ∷ 0x02 ∷ 0x00 ∷ 0x00 ∷ 0x00 ∷ replicate 56 0x00)

abbrev pub proved_set : List Figure
proved_set =
    (order_of v1_9 v1_10 is record { number = 0; order = negsuc 0 })
    ∷ (order_of v1_9 v1_9_0 is record { number = 0; order = pos 0 })
    ∷ (rank_of v01_2 is record { number = 61; rank = 0 ∷ 0 ∷ 0 ∷ 0 ∷ [] })
    ∷ (rank_of (replicate 16 0) is record { number = 61; rank = 0 ∷ 0 ∷ 0 ∷ 0 ∷ [] })
    ∷ (rank_of v65535_65535_6553 is record { number = 0; rank = 65535 ∷ 65535 ∷ 6553 ∷ 0 ∷ [] })
    ∷ (select_of (flash_with 9 10) 0 is record { number = 0; slot = 2 })
    ∷ (select_of (flash_with 10 9) 0 is record { number = 0; slot = 1 })
    ∷ (select_of (flash_with 7 7) 0 is record { number = 0; slot = 1 })
    ∷ (select_of (flash_with 255 0) 0 is record { number = 0; slot = 2 })
    ∷ (select_of (flash_with 0 255) 0 is record { number = 0; slot = 1 })
    ∷ ((uncut receiver (fresh E whole_ram) (0x01 ∷ 0x00 ∷ 0x00 ∷ 0x00 ∷ 0x00 ∷ [])).final.step is TakeCode 65536 0)
    ∷ ((uncut receiver (fresh E whole_ram) (0x01 ∷ 0x00 ∷ 0x00 ∷ 0x01 ∷ 0x00 ∷ [])).final.step is TakeCode 65537 0)
    ∷ (definition rom_p (replicate 4 0) (0x01 ∷ 0x03 ∷ 0x00 ∷ 0x11 ∷ 0x22 ∷ 0x44 ∷ 0x06 ∷ []) is record {
      replies = 0x02 ∷ 0x06 ∷ 0x77 ∷ [];
      taken = 7;
      sent = 3;
      session = written P (Running first_address) 0;
      memories = 0x11 ∷ 0x22 ∷ 0x44 ∷ 0x00 ∷ [];
    })
    ∷ (definition uartboot device (0x01 ∷ 0x04 ∷ 0x07 ∷ 0x00 ∷ []) is record {
      replies = 0x02 ∷ 0x01 ∷ 0x00 ∷ 0x03 ∷ 0x15 ∷ 0x02 ∷ 0x01 ∷ 0x00 ∷ 0x03 ∷ [];
      taken = 4;
      sent = 9;
      session = uartboot-record.written (Header uartboot-step.TakeSoh) 12;
      memories = device;
    })
    ∷ (executed Erase 8 (erasing (replicate 12288 0x00)) is record { ending = Silent; after = erasing (blank 8192 ++ replicate 4096 0x00) })
    ∷ (burnt (0x3C ∷ []) (0xF0 ∷ []) is (0x30 ∷ []))
    ∷ (crc_of rule16 digits is 0x29B1)
    ∷ (crc_of rule32 digits is 0xCBF4_3926)
    ∷ []
