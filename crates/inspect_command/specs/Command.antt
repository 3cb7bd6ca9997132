-- What a command's payload says, in numbers (rules, 6.7), or its refusal with 11 or 12 (rules, 2.3).
-- Assumes nothing.
use Rattle.std.specs.Prelude.{ℕ, List, cond, not, ltb, length, Option, Some, None, Result, Ok, Err}
use Rattle.command.specs.declared.payload.Command.{Command}
use Rattle.command.specs.declared.payload.Command.TheVariants.{Write, Read, Copy, Erase, Run, ReadQspi, Version, ChipErase, DirectWrite}
use Rattle.opcodes.specs.Opcode.{unknown_opcode, bad_length, opcode_of, has_length}
use Rattle.command.specs.Payload.{command_of}
use Rattle.inspect_command.specs.declared.Refusal.{Refusal}
use Rattle.inspect_command.specs.declared.Refusal.TheVariants.{UnknownOpcode, BadLength}
use Rattle.inspect_command.specs.declared.CommandRead.{CommandRead}
use Rattle.opcodes.specs.declared.Opcode.{Opcode}

-- the longest payload whose length a header's two bytes can say
abbrev pub longest_payload : ℕ
longest_payload = 65535

abbrev pub refused : (number : ℕ) → CommandRead
refused number = record { number = number; address = 0; offset = 0; count = 0; verify = 0 }

abbrev pub says : (address offset count verify : ℕ) → CommandRead
says address offset count verify = record { number = 0; address = address; offset = offset; count = count; verify = verify }

-- a command's RAM address, its flash offset, how many bytes it stores, reads, copies or erases, and its verify byte; 0 for one that
-- it doesn't have
abbrev pub numbers_of : Command → CommandRead
numbers_of (Write address n) = says address.0 0 n 0
numbers_of (Read address n) = says address.0 0 n 0
numbers_of (Copy address n offset) = says address.0 offset.0 n 0
numbers_of (Erase offset n) = says 0 offset.0 n 0
numbers_of (Run address) = says address.0 0 0 0
numbers_of (ReadQspi offset n) = says 0 offset.0 n 0
numbers_of Version = says 0 0 0 0
numbers_of ChipErase = says 0 0 0 0
numbers_of (DirectWrite verify offset n) = says 0 offset.0 n verify

abbrev pub refusal_number : Refusal → ℕ
refusal_number UnknownOpcode = unknown_opcode
refusal_number BadLength = bad_length

-- a command's numbers, or a refusal's
abbrev pub told : Result Command Refusal → CommandRead
told (Ok command) = numbers_of command
told (Err refusal) = refused (refusal_number refusal)

abbrev pub read_by : Option Opcode → (payload : List ℕ) → CommandRead
read_by None payload = refused unknown_opcode
read_by (Some opcode) payload =
    cond (ltb longest_payload (length payload)) (refused bad_length)
    (cond (not (has_length opcode (length payload))) (refused bad_length)
    (numbers_of (command_of opcode (length payload) payload)))

unfoldable pub read_command : (opcode : ℕ) (payload : List ℕ) → CommandRead
read_command opcode payload = read_by (opcode_of opcode) payload
