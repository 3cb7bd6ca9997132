-- What the history of a session's actions says of it: a command NAKed before execution (rules, 3.6), and the byte that acknowledges the
-- checksum of a Run (rules, 3.7).
-- Assumes nothing.
use Rattle.std.specs.Prelude.{ℕ, ◌≡◌, Bool, true, false, cond, not, ◌&&◌, ◌||◌, List, [], ◌∷◌}
use Rattle.wire.specs.Line.{soh}
use Rattle.machine.specs.History.{Event}
use Rattle.machine.specs.Acknowledged.{took_byte}
use Rattle.opcodes.specs.Opcode.{is_run}
use Rattle.memory.specs.Memories.{Memories}
use Rattle.uartboot_flow.specs.declared.step.Step.{Step}
use Rattle.uartboot_flow.specs.declared.step.Step.TheVariants.{Greeting, Header, Command, Answer, Refusal, Running}
use Rattle.uartboot_flow.specs.declared.step.HeaderStep.{HeaderStep}
use Rattle.uartboot_flow.specs.declared.step.HeaderStep.TheVariants.{TakeSoh, TakeOpcode, TakeLow, TakeHigh}
use Rattle.uartboot_flow.specs.declared.step.CommandStep.{CommandStep}
use Rattle.uartboot_flow.specs.declared.step.CommandStep.TheVariants.{SendAck, TakePayload, SendPayloadAck, SendCrcLow, SendCrcHigh, TakeGo}
use Rattle.uartboot_flow.specs.State.{State}
use Rattle.uartboot_flow.specs.Device.{device}

-- the step that takes the byte after a payload's CRC
abbrev pub is_go : CommandStep → Bool
is_go SendAck = false
is_go (TakePayload place) = false
is_go SendPayloadAck = false
is_go SendCrcLow = false
is_go SendCrcHigh = false
is_go TakeGo = true

-- the same for a Run
abbrev pub awaits_run : Step → Bool
awaits_run (Greeting place) = false
awaits_run (Header step) = false
awaits_run (Command opcode size step) = is_go step && is_run opcode
awaits_run (Answer opcode size step) = false
awaits_run Refusal = false
awaits_run (Running address) = false

abbrev pub awaits : State → Bool
awaits s = awaits_run s.step

-- the step that takes the 01 with which a command begins
abbrev pub is_soh : HeaderStep → Bool
is_soh TakeSoh = true
is_soh TakeOpcode = false
is_soh (TakeLow opcode) = false
is_soh (TakeHigh opcode low) = false

abbrev pub awaits_command : Step → Bool
awaits_command (Greeting place) = false
awaits_command (Header step) = is_soh step
awaits_command (Command opcode size step) = false
awaits_command (Answer opcode size step) = false
awaits_command Refusal = false
awaits_command (Running address) = false

abbrev pub is_payload : CommandStep → Bool
is_payload SendAck = false
is_payload (TakePayload place) = true
is_payload SendPayloadAck = false
is_payload SendCrcLow = false
is_payload SendCrcHigh = false
is_payload TakeGo = false

-- a command's steps that take its header, or its payload: a 15 after one of them comes from step 1 or 2
abbrev pub is_early : Step → Bool
is_early (Greeting place) = false
is_early (Header step) = not (is_soh step)
is_early (Command opcode size step) = is_payload step
is_early (Answer opcode size step) = false
is_early Refusal = false
is_early (Running address) = false

abbrev pub is_refusal : Step → Bool
is_refusal (Greeting place) = false
is_refusal (Header step) = false
is_refusal (Command opcode size step) = false
is_refusal (Answer opcode size step) = false
is_refusal Refusal = true
is_refusal (Running address) = false

abbrev pub begins : Event ℕ State → Bool
begins e = awaits_command e.state.step && took_byte soh e.view

abbrev pub naks : Event ℕ State → Bool
naks e = is_early e.state.step && is_refusal (device.after e.state e.view).step

-- the last command: the memories when its 01 was taken, and whether it was NAKed before execution
pub data Last : Type 0 where
  none : Last
  since : Memories → (refused : Bool) → Last

abbrev pub noted : (nak : Bool) → Last → Last
noted nak none = none
noted nak (since m refused) = since m (nak || refused)

abbrev pub last_of : List (Event ℕ State) → Last
last_of [] = none
last_of (e ∷ events) = cond (begins e) (since e.state.mem false) (noted (naks e) (last_of events))

-- a command NAKed before execution has left RAM and flash as they were at its 01, until the next command
abbrev pub SameSince : Last → State → Type 0
SameSince none s = Unit {0}
SameSince (since m false) s = Unit {0}
SameSince (since m true) s = (s.mem.ram ≡ m.ram) × (s.mem.flash ≡ m.flash)

abbrev pub Unchanged : List (Event ℕ State) → State → Type 0
Unchanged events s = SameSince (last_of events) s
