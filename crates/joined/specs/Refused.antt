-- A command that the session refuses, over a joined line: the host ends with reason 73 (rules, 15.9).
-- Assumes nothing.
use Rattle.std.specs.Prelude.{ℕ, ◌≤◌, ◌<◌, ◌≡◌, Bool, true, false, ◌||◌, List, [], ◌∷◌, ◌++◌, eqb, length, drop}
use Rattle.wire.specs.Line.{ack, nak}
use Rattle.memory.specs.Store.{laid, changed_from}
use Rattle.memory.specs.Flash.{burnt}
use Rattle.memory.specs.Memories.{Memories}
use Rattle.opcodes.specs.declared.Opcode.{Opcode}
use Rattle.opcodes.specs.declared.Opcode.TheVariants.{DirectWrite}
use Rattle.opcodes.specs.Opcode.{opcode_number, data_place}
use Rattle.command.specs.Payload.{offset_at}
use Rattle.command.specs.Check.{bad_verify, empty_range, outside_memory, past_end, long_answer}
use Rattle.command_execution.specs.declared.Ending.TheVariants.{Failed}
use Rattle.command_execution.specs.Execution.{verify_differs}
use Rattle.uartboot_flow.specs.declared.step.Step.TheVariants.{Header}
use Rattle.uartboot_flow.specs.declared.step.HeaderStep.TheVariants.{TakeSoh}
use Rattle.uartboot_flow.specs.State as device-state
use Rattle.uartboot_flow.specs.Flow.{long_payload}
use Rattle.host_command.specs.Exchange.{lent}
use Rattle.host_command.specs.Refusal.{refusal_of}
use Rattle.host_flow.specs.declared.step.Step.TheVariants.{Over}
use Rattle.host_flow.specs.State.{state}
use Rattle.host_flow.specs.Flow.{device_refused}
use Rattle.joined.specs.Traffic.{greeting_bytes, header_bytes, host_bytes, device_bytes}
use Rattle.joined.specs.Accepted.{brought, against, effect, Fits, Passes}
use Rattle.joined.specs.Closed.{Closed}

-- over the line the host sends h and takes `used`, which ends with 15; the greeting is left; the device has noted why and executed
-- `count` commands
abbrev pub Refused : Opcode → (payload answer : List ℕ) → Memories → (h used : List ℕ) (why count : ℕ) → (after : Memories) → Type 0
Refused opcode payload answer m h used why count after =
    let c = lent (opcode_number opcode) payload answer in
    Closed c m h used greeting_bytes (state Over device_refused c) (device-state.state (Header TakeSoh) why after) count

-- 15 for the header, since the payload is longer than the work buffer: nothing is executed, and nothing has changed
abbrev pub TooLong : Opcode → (payload answer : List ℕ) → Memories → Type 0
TooLong opcode payload answer m = Refused opcode payload answer m (header_bytes opcode payload) (greeting_bytes ++ (nak ∷ [])) long_payload 0 m

abbrev pub HeaderRefused : Type 0
HeaderRefused =
    (opcode : Opcode) (payload answer : List ℕ) (m : Memories) → refusal_of (lent (opcode_number opcode) payload answer) ≡ 0 → Fits m →
    length m.work < length payload → TooLong opcode payload answer m

-- the reasons against a payload
abbrev pub payload_reasons : List ℕ
payload_reasons = bad_verify ∷ empty_range ∷ outside_memory ∷ long_answer ∷ past_end ∷ []

abbrev pub is_among : (these : List ℕ) (n : ℕ) → Bool
is_among [] n = false
is_among (this ∷ these) n = eqb n this || is_among these n

-- 15 for the payload: nothing is executed, RAM and flash have not changed, the payload is in the work buffer
pub record NotAllowed (opcode : Opcode) (payload answer : List ℕ) (m : Memories) : Type 0 where
  pub closed : Refused opcode payload answer m (header_bytes opcode payload ++ payload) (greeting_bytes ++ (ack ∷ nak ∷ []))
      (against opcode payload m) 0 (brought payload m)
  pub reason_is : is_among payload_reasons (against opcode payload m) ≡ true

abbrev pub PayloadRefused : Type 0
PayloadRefused =
    (opcode : Opcode) (payload answer : List ℕ) (m : Memories) → refusal_of (lent (opcode_number opcode) payload answer) ≡ 0 → Fits m →
    length payload ≤ length m.work → (against opcode payload m ≡ 0 → ⊥) → NotAllowed opcode payload answer m

-- 15 in place of the next greeting, since after a Direct write flash differs from its data: it is executed once and its store stays, RAM
-- has not changed, the payload is in the work buffer
pub record Differs (opcode : Opcode) (payload answer : List ℕ) (m : Memories) : Type 0 where
  pub direct_write : opcode ≡ DirectWrite
  pub closed : Refused opcode payload answer m (host_bytes opcode payload []) (device_bytes payload (nak ∷ [])) verify_differs 1 (effect opcode payload m).after
  pub store_stays : (effect opcode payload m).after.flash
      ≡ changed_from (offset_at 1 payload).0 (burnt (drop (data_place DirectWrite) payload)) m.flash
  pub same_ram : (effect opcode payload m).after.ram ≡ m.ram
  pub same_work : (effect opcode payload m).after.work ≡ laid payload m.work

abbrev pub NotVerified : Type 0
NotVerified =
    (opcode : Opcode) (payload answer : List ℕ) (m : Memories) → refusal_of (lent (opcode_number opcode) payload answer) ≡ 0 → Passes opcode payload m →
    (effect opcode payload m).ending ≡ Failed verify_differs → Differs opcode payload answer m
