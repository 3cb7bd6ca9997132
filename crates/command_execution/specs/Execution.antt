-- What a command does to the memories, and how it ends (rules, 6.3 and 6.9).
-- Assumes nothing.
use Rattle.std.specs.Prelude.{ℕ, ◌+◌, ◌-◌, ◌≤◌, ◌<◌, ◌≡◌, Bool, true, false, cond, ◌||◌, not, List, eqb, length, drop}
use Rattle.wire.specs.Unit.{ram_base}
use Rattle.wire.specs.declared.unit.RamAddress.{RamAddress}
use Rattle.memory.specs.Store.{laid, changed_from, part_of}
use Rattle.memory.specs.Flash.{burnt, blank, erased}
use Rattle.memory.specs.Compare.{is_front}
use Rattle.opcodes.specs.declared.Opcode.{Opcode}
use Rattle.opcodes.specs.declared.Opcode.TheVariants as op
use Rattle.command.specs.declared.payload.Command.{Command}
use Rattle.command.specs.declared.payload.Command.TheVariants.{Write, Read, Copy, Erase, Run, ReadQspi, Version, ChipErase, DirectWrite}
use Rattle.opcodes.specs.Opcode.{has_answer, data_place}
use Rattle.command.specs.Payload.{command_of}
use Rattle.command.specs.Version.{version}
use Rattle.command.specs.Check.{checks_of, judged}
use Rattle.command_execution.specs.declared.Ending.{Ending}
use Rattle.command_execution.specs.declared.Ending.TheVariants.{Silent, Answers, Runs, Failed}
use Rattle.memory.specs.Memories.{Memories, memories, Fitting}

-- the reason (rules, 2.2): flash differs from the command's data
abbrev pub verify_differs : ℕ
verify_differs = 18

-- code runs
abbrev pub is_running : Ending → Bool
is_running Silent = false
is_running (Answers n) = false
is_running (Runs address) = true
is_running (Failed reason) = false

abbrev pub is_answering : Ending → Bool
is_answering Silent = false
is_answering (Answers n) = true
is_answering (Runs address) = false
is_answering (Failed reason) = false

-- how a command ended, with the memories after it
pub record Executed : Type 0 where
  pub ending : Ending
  pub after : Memories

abbrev pub ended : Ending → Memories → Executed
ended ending after = record { ending = ending; after = after }

-- where an address lies in RAM
abbrev pub place_of : RamAddress → ℕ
place_of address = address.0 - ram_base

-- a Direct write's end: where verify is 1, the bytes must be in flash; the store stays either way
abbrev pub verified : (verify offset : ℕ) (bytes flash : List ℕ) → Ending
verified verify offset bytes flash = cond (not (eqb verify 1) || is_front bytes (drop offset flash)) Silent (Failed verify_differs)

-- the answer is laid at the front of the work buffer, whose other bytes stay (rules, 1.3)
abbrev pub answered : (bytes : List ℕ) → Memories → Executed
answered bytes m = ended (Answers (length bytes)) (memories m.ram m.flash (laid bytes m.work))

abbrev pub direct_written : (verify offset : ℕ) (bytes : List ℕ) → Memories → Executed
direct_written verify offset bytes m =
    let flash = changed_from offset (burnt bytes) m.flash in
    ended (verified verify offset bytes flash) (memories m.ram flash m.work)

-- what a command does once its checks have passed
abbrev pub performed : Command → Memories → Executed
performed (Write address n) m =
    ended Silent (memories (changed_from (place_of address) (laid (part_of (data_place op.Write) n m.work)) m.ram) m.flash m.work)
performed (Read address n) m = answered (part_of (place_of address) n m.ram) m
performed (Copy address n offset) m =
    ended Silent (memories m.ram (changed_from offset.0 (burnt (part_of (place_of address) n m.ram)) m.flash) m.work)
performed (Erase offset n) m = ended Silent (memories m.ram (erased offset.0 n m.flash) m.work)
performed (Run address) m = ended (Runs address) m
performed (ReadQspi offset n) m = answered (part_of offset.0 n m.flash) m
performed Version m = answered version m
performed ChipErase m = ended Silent (memories m.ram (blank (length m.flash)) m.work)
performed (DirectWrite verify offset n) m = direct_written verify offset.0 (part_of (data_place op.DirectWrite) n m.work) m

-- the reason against a command in these memories
abbrev pub checked : Command → Memories → ℕ
checked command m = judged (length m.ram) (length m.flash) (length m.work) (checks_of command)

abbrev pub performed_if : (reason : ℕ) → Command → Memories → Executed
performed_if reason command m = cond (eqb reason 0) (performed command m) (ended (Failed reason) m)

-- the checks are made again at execution; where one fails, nothing changes
unfoldable pub executed : Opcode → (count : ℕ) → Memories → Executed
executed opcode count m = let command = command_of opcode count m.work in performed_if (checked command m) command m

-- the end of a command's data in the work buffer
abbrev pub data_end : Command → ℕ
data_end (Write address n) = data_place op.Write + n
data_end (Read address n) = 0
data_end (Copy address n offset) = 0
data_end (Erase offset n) = 0
data_end (Run address) = 0
data_end (ReadQspi offset n) = 0
data_end Version = 0
data_end ChipErase = 0
data_end (DirectWrite verify offset n) = data_place op.DirectWrite + n

-- a command whose checks passed, in memories of these lengths
pub record Allowed (command : Command) (ram flash work : ℕ) : Type 0 where
  pub passes : judged ram flash work (checks_of command) ≡ 0
  pub data_in : data_end command ≤ work
  pub fitting : Fitting ram flash work

-- an answer of an opcode that has one, of 1 byte or more, in a work buffer of `work` bytes
pub record Answering (opcode : Opcode) (count work : ℕ) : Type 0 where
  pub has_answer : has_answer opcode ≡ true
  pub some : 0 < count
  pub in_work : count ≤ work
