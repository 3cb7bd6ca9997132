-- What a payload says (rules, 6.7).
-- Assumes nothing.
use Rattle.std.specs.Prelude.{ℕ, ◌-◌, ◌≤◌, ◌≡◌, true, List, get_or}
use Rattle.numbers.specs.Number.{number_at}
use Rattle.wire.specs.declared.unit.RamAddress.{RamAddress}
use Rattle.wire.specs.declared.unit.FlashOffset.{FlashOffset}
use Rattle.opcodes.specs.declared.Opcode.{Opcode}
use Rattle.opcodes.specs.declared.Opcode.TheVariants.{Write, Read, Copy, Erase, Run, ReadQspi, Version, ChipErase, DirectWrite}
use Rattle.command.specs.declared.payload.Command.{Command}
use Rattle.command.specs.declared.payload.Command.TheVariants as command
use Rattle.opcodes.specs.Opcode.{has_length, data_place}

abbrev pub address_at : (place : ℕ) (work : List ℕ) → RamAddress
address_at place work = record { 0 = number_at 4 work place }

abbrev pub offset_at : (place : ℕ) (work : List ℕ) → FlashOffset
offset_at place work = record { 0 = number_at 4 work place }

-- a payload of `size` bytes is at the front of the work buffer
abbrev pub command_of : Opcode → (size : ℕ) (work : List ℕ) → Command
command_of Write size work = command.Write (address_at 0 work) (size - data_place Write)
command_of Read size work = command.Read (address_at 0 work) (number_at 2 work 4)
command_of Copy size work = command.Copy (address_at 0 work) (number_at 2 work 4) (offset_at 6 work)
command_of Erase size work = command.Erase (offset_at 0 work) (number_at 4 work 4)
command_of Run size work = command.Run (address_at 0 work)
command_of ReadQspi size work = command.ReadQspi (offset_at 0 work) (number_at 2 work 4)
command_of Version size work = command.Version
command_of ChipErase size work = command.ChipErase
command_of DirectWrite size work = command.DirectWrite (get_or work 0 0) (offset_at 1 work) (size - data_place DirectWrite)

-- a payload length that the opcode has, in a work buffer of `work` bytes
pub record Carried (opcode : Opcode) (size work : ℕ) : Type 0 where
  pub has_length : has_length opcode size ≡ true
  pub in_work : size ≤ work
