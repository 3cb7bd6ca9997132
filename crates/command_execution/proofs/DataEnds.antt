-- The data of a command end in its payload.
-- Assumes nothing.
use Prim.Native.Nat.{ℕ, ◌≤◌}
use mathlib.Core.Path.{◌≡◌}
use mathlib.Core.Bool.{true}
use mathlib.Core.List.{List}
use native.Mathlib.Omega.{arith}
use Rattle.opcodes.specs.declared.Opcode.{Opcode}
use Rattle.opcodes.specs.declared.Opcode.TheVariants.{Write, Read, Copy, Erase, Run, ReadQspi, Version, ChipErase, DirectWrite}
use Rattle.opcodes.specs.Opcode.{has_length}
use Rattle.command.specs.Payload.{command_of}
use Rattle.opcodes.proofs.Opcodes.{never-shorter}
use Rattle.command_execution.specs.Execution.{data_end}

pub data-end-in : (opcode : Opcode) (count : ℕ) (work : List ℕ) → has_length opcode count ≡ true
    → data_end (command_of opcode count work) ≤ count
data-end-in Write count work e = omega (arith, never-shorter Write count e)
data-end-in Read count work e = omega arith
data-end-in Copy count work e = omega arith
data-end-in Erase count work e = omega arith
data-end-in Run count work e = omega arith
data-end-in ReadQspi count work e = omega arith
data-end-in Version count work e = omega arith
data-end-in ChipErase count work e = omega arith
data-end-in DirectWrite count work e = omega (arith, never-shorter DirectWrite count e)
