-- A command that the session accepts, over a joined line: it has its effect once, and the host is done, with reason 0, and holds the
-- answer (rules, 15.9).
-- Assumes nothing.
use Rattle.std.specs.Prelude.{ℕ, ◌+◌, ◌≡◌, List, length}
use Rattle.memory.specs.Store.{laid}
use Rattle.memory.specs.Memories.{Memories}
use Rattle.opcodes.specs.declared.Opcode.{Opcode}
use Rattle.opcodes.specs.Opcode.{opcode_number}
use Rattle.command.specs.Payload.{address_at}
use Rattle.uartboot_flow.specs.declared.step.Step.TheVariants.{Header, Running}
use Rattle.uartboot_flow.specs.declared.step.HeaderStep.TheVariants.{TakeSoh}
use Rattle.uartboot_flow.specs.State as device-state
use Rattle.host_command.specs.declared.Follows.{Follows}
use Rattle.host_command.specs.declared.Follows.TheVariants.{Answers, Runs, Greets}
use Rattle.host_command.specs.Exchange.{lent, follows_command}
use Rattle.host_command.specs.Refusal.{refusal_of}
use Rattle.host_flow.specs.declared.step.Step.TheVariants.{Over}
use Rattle.host_flow.specs.State.{state}
use Rattle.joined.specs.Traffic.{host_answer, device_answer, next_greeting, host_bytes, device_bytes, payload_count, answer_count}
use Rattle.joined.specs.Accepted.{effect, answer_bytes, Accepted}
use Rattle.joined.specs.Closed.{Closed}

-- where the device then stands: it has greeted again and waits for 01, or code runs at the payload's address
abbrev pub device_at : Follows → (payload : List ℕ) → Memories → device-state.State
device_at (Answers size) payload m = device-state.state (Header TakeSoh) 0 m
device_at Runs payload m = device-state.state (Running (address_at 0 payload)) 0 m
device_at Greets payload m = device-state.state (Header TakeSoh) 0 m

pub record Line (opcode : Opcode) (payload answer : List ℕ) (m : Memories) : Type 0 where
  -- the next greeting is left untaken, and one command is executed
  pub closed :
      let follows = follows_command opcode payload in
      let bytes = answer_bytes opcode payload m in
      Closed (lent (opcode_number opcode) payload answer) m
      (host_bytes opcode payload (host_answer follows bytes)) (device_bytes payload (device_answer follows bytes)) (next_greeting follows)
      (state Over 0 (lent (opcode_number opcode) payload (laid bytes answer))) (device_at follows payload (effect opcode payload m).after) 1
  pub host_sends : length (host_bytes opcode payload (host_answer (follows_command opcode payload) (answer_bytes opcode payload m)))
      ≡ payload_count payload + answer_count (follows_command opcode payload)

abbrev pub JoinedLine : Type 0
JoinedLine =
    (opcode : Opcode) (payload answer : List ℕ) (m : Memories) → refusal_of (lent (opcode_number opcode) payload answer) ≡ 0 →
    Accepted opcode payload m → Line opcode payload answer m
