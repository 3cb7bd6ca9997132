-- How often a device executes a command, counted along its actions (rules, 15.9).
-- Assumes nothing.
use Rattle.std.specs.Prelude.{ℕ, ◌≡◌, Bool, true, false, List, [], ◌∷◌, eqb}
use Rattle.wire.specs.Line.{ack}
use Rattle.memory.specs.Memories.{Memories}
use Rattle.machine.specs.History.{Event}
use Rattle.machine.specs.Acknowledged.{took_byte}
use Rattle.opcodes.specs.declared.Opcode.{Opcode}
use Rattle.uartboot_flow.specs.declared.step.Step.{Step}
use Rattle.uartboot_flow.specs.declared.step.Step.TheVariants.{Greeting, Header, Command, Answer, Refusal, Running}
use Rattle.uartboot_flow.specs.declared.step.CommandStep.{CommandStep}
use Rattle.uartboot_flow.specs.declared.step.CommandStep.TheVariants.{SendAck, TakePayload, SendPayloadAck, SendCrcLow, SendCrcHigh, TakeGo}
use Rattle.uartboot_flow.specs.State.{State, state}
use Rattle.uartboot_flow.specs.Flow.{executes}
use Rattle.uartboot_flow.specs.Device.{device}
use Rattle.uartboot_flow.specs.Fresh.{fresh}
use Rattle.joining.specs.Times.{Times}

-- a command without payload is executed once the header's 06 is sent, one with a payload once the host's 06 is taken
abbrev pub executes_at : (size : ℕ) → CommandStep → (view : List ℕ) → Bool
executes_at size SendAck view = eqb size 0
executes_at size (TakePayload place) view = false
executes_at size SendPayloadAck view = false
executes_at size SendCrcLow view = false
executes_at size SendCrcHigh view = false
executes_at size TakeGo view = took_byte ack view

abbrev pub executes_in : Step → (view : List ℕ) → Bool
executes_in (Greeting place) view = false
executes_in (Header step) view = false
executes_in (Command opcode size step) view = executes_at size step view
executes_in (Answer opcode size step) view = false
executes_in Refusal view = false
executes_in (Running address) view = false

abbrev pub is_execution : Event ℕ State → Bool
is_execution e = executes_in e.state.step e.view

-- on these bytes a fresh device executes so many commands
abbrev pub Executions : Memories → (bytes : List ℕ) (count : ℕ) → Type 0
Executions m bytes count = Times is_execution device (fresh m) bytes count

-- these are the executions: after such an action the command is executed, and no other changes RAM or flash
pub record ExecutionsAre : Type 0 where
  pub sent_ack : (opcode : Opcode) (size reason : ℕ) (m : Memories) → executes_at size SendAck [] ≡ true →
      device.after (state (Command opcode size SendAck) reason m) [] ≡ executes reason m opcode size
  pub took_go : (opcode : Opcode) (size reason byte : ℕ) (m : Memories) → executes_at size TakeGo (byte ∷ []) ≡ true →
      device.after (state (Command opcode size TakeGo) reason m) (byte ∷ []) ≡ executes reason m opcode size
  pub no_others : (s : State) (view : List ℕ) → is_execution (record { state = s; view = view }) ≡ false →
      let t = device.after s view in (t.mem.ram ≡ s.mem.ram) × (t.mem.flash ≡ s.mem.flash)
