-- A command that a session with these memories accepts, and its effect (rules, 15.9).
-- Assumes nothing.
use Rattle.std.specs.Prelude.{ℕ, ◌≤◌, ◌≡◌, true, List, [], length}
use Rattle.numbers.specs.Number.{number_at}
use Rattle.memory.specs.Store.{laid, part_of}
use Rattle.memory.specs.Memories.{Memories, memories, Fitting}
use Rattle.opcodes.specs.declared.Opcode.{Opcode}
use Rattle.opcodes.specs.declared.Opcode.TheVariants.{Write, Read, Copy, Erase, Run, ReadQspi, Version, ChipErase, DirectWrite}
use Rattle.opcodes.specs.Opcode.{has_length}
use Rattle.command.specs.Payload.{address_at, offset_at, command_of}
use Rattle.command.specs.Version.{version}
use Rattle.command_execution.specs.declared.Ending.TheVariants.{Failed}
use Rattle.command_execution.specs.Execution.{Executed, verify_differs, place_of, checked, executed}

-- the payload in the work buffer
abbrev pub brought : (payload : List ℕ) → Memories → Memories
brought payload m = memories m.ram m.flash (laid payload m.work)

-- the reason against the command whose payload is there, 0 where there is none
abbrev pub against : Opcode → (payload : List ℕ) → Memories → ℕ
against opcode payload m = checked (command_of opcode (length payload) (laid payload m.work)) (brought payload m)

-- the command executed once
abbrev pub effect : Opcode → (payload : List ℕ) → Memories → Executed
effect opcode payload m = executed opcode (length payload) (brought payload m)

-- its answer: bytes of RAM, bytes of flash, the version, or none
abbrev pub answer_bytes : Opcode → (payload : List ℕ) → Memories → List ℕ
answer_bytes Write payload m = []
answer_bytes Read payload m = part_of (place_of (address_at 0 payload)) (number_at 2 payload 4) m.ram
answer_bytes Copy payload m = []
answer_bytes Erase payload m = []
answer_bytes Run payload m = []
answer_bytes ReadQspi payload m = part_of (offset_at 0 payload).0 (number_at 2 payload 4) m.flash
answer_bytes Version payload m = version
answer_bytes ChipErase payload m = []
answer_bytes DirectWrite payload m = []

-- lengths that no call refuses
abbrev pub Fits : Memories → Type 0
Fits m = Fitting (length m.ram) (length m.flash) (length m.work)

-- header and payload pass 11 to 17 and 21
pub record Passes (opcode : Opcode) (payload : List ℕ) (m : Memories) : Type 0 where
  pub fitting : Fits m
  pub has_length : has_length opcode (length payload) ≡ true
  pub in_work : length payload ≤ length m.work
  pub passes : against opcode payload m ≡ 0

-- and a Direct write's comparison holds
pub record Accepted (opcode : Opcode) (payload : List ℕ) (m : Memories) : Type 0 where
  pub good : Passes opcode payload m
  pub verified : (effect opcode payload m).ending ≡ Failed verify_differs → ⊥
