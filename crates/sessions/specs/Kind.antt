-- The kinds of session, ROM P, ROM E and uartboot (rules, 3.5), each with its memories, its states and its flow.
-- Assumes nothing.
use Rattle.std.specs.Prelude.{ℕ, Bool, List, ◌≡◌, length}
use Rattle.machine.specs.History.{Event}
use Rattle.machine.specs.Session.{Session}
use Rattle.machine.specs.declared.Record.{Record}
use Rattle.rom_flow.specs.declared.kind.Kind.TheVariants.{P, E}
use Rattle.rom_flow.specs.State as receiver
use Rattle.rom_flow.specs.Fresh as receiver-fresh
use Rattle.rom.specs.Session.{rom}
use Rattle.rom.specs.Awaits as rom-awaits
use Rattle.memory.specs.Memories.{Memories, SameLengths}
use Rattle.uartboot_flow.specs.State as device
use Rattle.uartboot_flow.specs.Fresh as device-fresh
use Rattle.uartboot.specs.Session as device-session
use Rattle.uartboot.specs.History as history

pub data Kind : Type 0 where
  rom_p : Kind
  rom_e : Kind
  uartboot : Kind

-- RAM, flash and work buffer; for the ROM the RAM alone
abbrev pub MemoriesOf : Kind → Type 0
MemoriesOf rom_p = List ℕ
MemoriesOf rom_e = List ℕ
MemoriesOf uartboot = Memories

abbrev pub StateOf : Kind → Type 0
StateOf rom_p = receiver.State
StateOf rom_e = receiver.State
StateOf uartboot = device.State

abbrev pub session_of : (kind : Kind) → Session ℕ (MemoriesOf kind) (StateOf kind)
session_of rom_p = rom
session_of rom_e = rom
session_of uartboot = device-session.uartboot

-- the state in which the definition starts (rules, 3.4): the flow's first step with last reason 0
abbrev pub fresh_of : (kind : Kind) → MemoriesOf kind → StateOf kind
fresh_of rom_p = receiver-fresh.fresh P
fresh_of rom_e = receiver-fresh.fresh E
fresh_of uartboot = device-fresh.fresh

-- the record that is handed out for a fresh session
abbrev pub fresh_record_of : Kind → Record
fresh_record_of rom_p = receiver-fresh.fresh_record (receiver-fresh.kind_number P)
fresh_record_of rom_e = receiver-fresh.fresh_record (receiver-fresh.kind_number E)
fresh_record_of uartboot = device-fresh.fresh_record

-- memories of the same lengths
abbrev pub SameOf : (kind : Kind) (a b : MemoriesOf kind) → Type 0
SameOf rom_p a b = length a ≡ length b
SameOf rom_e a b = length a ≡ length b
SameOf uartboot a b = SameLengths a b

-- the flow takes the byte for a checksum: after the ROM's XOR, or after the CRC of a Run's payload
abbrev pub awaits_of : (kind : Kind) → StateOf kind → Bool
awaits_of rom_p = rom-awaits.awaits
awaits_of rom_e = rom-awaits.awaits
awaits_of uartboot = history.awaits

-- a command NAKed before execution has left RAM and flash as they were at its 01, until the next command; the ROM has no commands
abbrev pub NakUnchanged : (kind : Kind) → List (Event ℕ (StateOf kind)) → StateOf kind → Type 0
NakUnchanged rom_p events s = Unit {0}
NakUnchanged rom_e events s = Unit {0}
NakUnchanged uartboot events s = history.Unchanged events s
