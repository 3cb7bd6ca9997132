-- The checks of a command (rules, 2.2 and 6.8): reasons 14 and 15, 16 and 21 for the range in RAM, 16 and 21 for the range in flash, and
-- 17, in that order.
-- Assumes nothing.
use Rattle.std.specs.Prelude.{ℕ, cond, not, eqb, ltb, length, Option, Some, None, Result, Ok, Err}
use Rattle.wire.specs.Range.{lies_in}
use Rattle.wire.specs.Unit.{ram_base, first_address, ram_place, flash_place}
use Rattle.wire.specs.declared.unit.RamAddress.{RamAddress}
use Rattle.wire.specs.declared.unit.FlashOffset.{FlashOffset}
use Rattle.command.specs.declared.payload.Command.{Command}
use Rattle.command.specs.declared.payload.Command.TheVariants.{Write, Read, Copy, Erase, Run, ReadQspi, Version, ChipErase, DirectWrite}
use Rattle.command.specs.declared.check.Checks.{Checks}
use Rattle.command.specs.declared.fault.Fault.{Fault}
use Rattle.command.specs.declared.fault.Fault.TheVariants.{BadVerify, EmptyRange, OutsideMemory, PastEnd, LongAnswer}
use Rattle.command.specs.Version.{version}

-- the reasons: verify is neither 0 nor 1; a count or size is 0; the first byte of a range is outside its memory; a range begins in its
-- memory and runs past the end; the answer is longer than the work buffer
abbrev pub bad_verify : ℕ
bad_verify = 14

abbrev pub empty_range : ℕ
empty_range = 15

abbrev pub outside_memory : ℕ
outside_memory = 16

abbrev pub past_end : ℕ
past_end = 21

abbrev pub long_answer : ℕ
long_answer = 17

abbrev pub fault_number : Fault → ℕ
fault_number BadVerify = bad_verify
fault_number EmptyRange = empty_range
fault_number OutsideMemory = outside_memory
fault_number PastEnd = past_end
fault_number LongAnswer = long_answer

-- the reason that a check gives; 0 where it passes
abbrev pub reason_of : Result (Unit {0}) Fault → ℕ
reason_of (Ok passed) = 0
reason_of (Err fault) = fault_number fault

abbrev pub checks : (verify count : ℕ) (address : RamAddress) (ram : ℕ) (offset : FlashOffset) (flash answer : ℕ) → Checks
checks verify count address ram offset flash answer =
    record { verify = verify; count = count; address = address; ram = ram; offset = offset; flash = flash; answer = answer }

-- the offset for a command without a range in flash; the address for one without a range in RAM is RAM's first
abbrev pub first_offset : FlashOffset
first_offset = record { 0 = 0 }

-- what is tested of a command: its verify byte, its count, its range in RAM, its range in flash, and how long its answer is
abbrev pub checks_of : Command → Checks
checks_of (Write address n) = checks 0 n address n first_offset 0 0
checks_of (Read address n) = checks 0 n address n first_offset 0 n
checks_of (Copy address n offset) = checks 0 n address n offset n 0
checks_of (Erase offset n) = checks 0 n first_address 0 offset n 0
checks_of (Run address) = checks 0 1 address 1 first_offset 0 0
checks_of (ReadQspi offset n) = checks 0 n first_address 0 offset n n
checks_of Version = checks 0 1 first_address 0 first_offset 0 (length version)
checks_of ChipErase = checks 0 1 first_address 0 first_offset 0 0
checks_of (DirectWrite verify offset n) = checks verify n first_address 0 offset n 0

-- the reason against a range that is not wholly in its memory, by where its first byte lies: outside, or inside, so that the end is wrong
abbrev pub wrong_end : (first : Option ℕ) → ℕ
wrong_end None = outside_memory
wrong_end (Some place) = past_end

-- the reason of the first test that fails, in memories of these lengths; 0 where none does
unfoldable pub judged : (ram flash work : ℕ) → Checks → ℕ
judged ram flash work c =
    cond (ltb 1 c.verify) bad_verify
    (cond (eqb c.count 0) empty_range
    (cond (not (lies_in c.address.0 c.ram ram_base ram)) (wrong_end (ram_place c.address 1 ram))
    (cond (not (lies_in c.offset.0 c.flash 0 flash)) (wrong_end (flash_place c.offset 1 flash))
    (cond (ltb work c.answer) long_answer
    0))))
