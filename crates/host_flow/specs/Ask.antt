-- What the program asks of a step, and what that says of the flow.
-- Assumes nothing.
use Rattle.std.specs.Prelude.{ℕ, ◌≤◌, ◌<◌, ◌≡◌, false, List}
use Rattle.machine.specs.Does.{takes, sends}
use Rattle.machine.specs.Steps.{Taken, Sent}
use Rattle.host_command.specs.declared.Exchange.{Exchange}
use Rattle.host_command.specs.Exchange.{Lent, lent, exchange_of, exchange, awaited_of}
use Rattle.host_flow.specs.declared.step.Step.{Step}
use Rattle.host_flow.specs.declared.step.Step.TheVariants as step
use Rattle.machine.specs.declared.step.Moved.{Moved}
use Rattle.host_flow.specs.declared.ask.Taking.{Taking}
use Rattle.host_flow.specs.declared.ask.Taking.TheVariants.{Awaited, Any, CrcLow, CrcHigh, LengthLow, LengthHigh, Answer}
use Rattle.host_flow.specs.declared.ask.Sending.{Sending}
use Rattle.host_flow.specs.declared.ask.Sending.TheVariants as sending
use Rattle.host_flow.specs.declared.ask.Ask.{Ask}
use Rattle.host_flow.specs.declared.ask.Ask.TheVariants.{Take, Send, Look, Halt}
use Rattle.host_flow.specs.State.{State, state}
use Rattle.host_flow.specs.Flow.{goes, expected, does_at}
use Rattle.host_flow.specs.Host.{is_look, host}

-- a step takes a byte, and a state follows, whatever is lent from which x is known
pub record TakesOn (x : Exchange) (s : Step) (next : (reason : ℕ) → Lent → (byte : ℕ) → State) : Type 0 where
  pub is : (reason : ℕ) (c : Lent) → exchange c ≡ x → does_at reason c s ≡ takes (next reason c)
  pub never_leaves : is_look s ≡ false

-- a step sends a byte, and then another step follows
pub record SendsOn (x : Exchange) (s : Step) (byte : ℕ) (next : Step) : Type 0 where
  pub is : (reason : ℕ) (c : Lent) → exchange c ≡ x → does_at reason c s ≡ sends byte (goes reason c next)

-- a step takes this, and sends this
abbrev pub TakesSo : Taking → Exchange → Step → Type 0
TakesSo (Awaited byte next) x s = TakesOn x s (λ reason c came. expected reason c byte came next)
TakesSo (Any next) x s = TakesOn x s (λ reason c came. goes reason c next)
TakesSo CrcLow x s = s ≡ step.TakeCrcLow
TakesSo (CrcHigh low) x s = s ≡ step.TakeCrcHigh low
TakesSo LengthLow x s = s ≡ step.TakeLengthLow
TakesSo (LengthHigh low) x s = s ≡ step.TakeLengthHigh low
TakesSo (Answer place) x s = s ≡ step.TakeAnswer place

abbrev pub SendsSo : Sending → Exchange → Step → Type 0
SendsSo (sending.Byte byte next) x s = SendsOn x s byte next
SendsSo (sending.Payload place) x s = s ≡ step.SendPayload place
SendsSo sending.Crc x s = s ≡ step.SendCrcLow
SendsSo sending.CrcHigh x s = s ≡ step.SendCrcHigh

abbrev pub Asked : Ask → Exchange → Step → Type 0
Asked (Take t) x s = TakesSo t x s
Asked (Send t) x s = SendsSo t x s
Asked Look x s = s ≡ step.Look
Asked Halt x s = s ≡ step.Over

-- what a taking, and a sending, may rely on: its bytes lie in the payload, or in an answer buffer of `room` bytes
abbrev pub FitsTaking : Taking → Exchange → (room : ℕ) → Type 0
FitsTaking (Awaited byte next) x room = Unit {0}
FitsTaking (Any next) x room = Unit {0}
FitsTaking CrcLow x room = Unit {0}
FitsTaking (CrcHigh low) x room = Unit {0}
FitsTaking LengthLow x room = Unit {0}
FitsTaking (LengthHigh low) x room = Unit {0}
FitsTaking (Answer place) x room = (place < awaited_of x.follows) × (awaited_of x.follows ≤ room)

abbrev pub FitsSending : Sending → Exchange → (payload room : ℕ) → Type 0
FitsSending (sending.Byte byte next) x payload room = Unit {0}
FitsSending (sending.Payload place) x payload room = (place < x.size) × (x.size ≡ payload)
FitsSending sending.Crc x payload room = awaited_of x.follows ≤ room
FitsSending sending.CrcHigh x payload room = awaited_of x.follows ≤ room

-- what a taking took, and a sending sent, for each opcode from which with this payload x is known, and each step that asks it
pub record TakenSo (t : Taking) (x : Exchange) (reason : ℕ) (payload input : List ℕ) (i : ℕ) (answer : List ℕ) (moved : Moved Step) (answer' : List ℕ) : Type 0 where
  pub is : (opcode : ℕ) (s : Step) → exchange_of opcode payload ≡ x → TakesSo t x s →
      Taken host input i (state s reason (lent opcode payload answer)) moved.count (state moved.step moved.reason (lent opcode payload answer'))

pub record SentSo (t : Sending) (x : Exchange) (reason : ℕ) (payload answer : List ℕ) (j : ℕ) (old : List ℕ) (moved : Moved Step) (output : List ℕ) : Type 0 where
  pub is : (opcode : ℕ) (s : Step) → exchange_of opcode payload ≡ x → SendsSo t x s →
      Sent host (state s reason (lent opcode payload answer)) j old moved.count (state moved.step moved.reason (lent opcode payload answer)) output
