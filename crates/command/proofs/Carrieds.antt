-- A payload that is carried holds its opcode's numbers.
-- Assumes nothing.
use Prim.Native.Nat.{ℕ, ◌≤◌}
use Rattle.opcodes.specs.declared.Opcode.{Opcode}
use Rattle.opcodes.specs.Opcode.{data_place}
use Rattle.opcodes.proofs.Opcodes.{never-shorter}
use Rattle.command.specs.Payload.{Carried}

pub long_enough : (opcode : Opcode) (count work : ℕ) → Carried opcode count work → (data_place opcode ≤ count) × (count ≤ work)
long_enough opcode count work carried = (never-shorter opcode count carried.has_length, carried.in_work)
