-- What the program asks of a step, and what that says of the flow.
-- Assumes nothing.
use Rattle.std.specs.Prelude.{ℕ, ◌≡◌, List}
use Rattle.machine.specs.Does.{sends, runs}
use Rattle.machine.specs.Steps.{Sent}
use Rattle.memory.specs.Memories.{Memories}
use Rattle.uartboot_flow.specs.declared.step.Step.{Step}
use Rattle.machine.specs.declared.step.Moved.{Moved}
use Rattle.uartboot_flow.specs.declared.step.Step.TheVariants.{Header, Command, Answer}
use Rattle.uartboot_flow.specs.declared.step.CommandStep.TheVariants.{SendAck, TakePayload, SendCrcLow, SendCrcHigh, TakeGo}
use Rattle.uartboot_flow.specs.declared.step.AnswerStep.TheVariants as a
use Rattle.machine.specs.declared.ask.Ask.{Ask}
use Rattle.machine.specs.declared.ask.Ask.TheVariants.{Take, Send, Halt}
use Rattle.uartboot_flow.specs.declared.ask.Taking.{Taking}
use Rattle.uartboot_flow.specs.declared.ask.Taking.TheVariants as taking
use Rattle.uartboot_flow.specs.declared.ask.Sending.{Sending}
use Rattle.uartboot_flow.specs.declared.ask.Sending.TheVariants as sending
use Rattle.uartboot_flow.specs.Flow.{goes, does_at}
use Rattle.uartboot_flow.specs.Sound.{Ready}
use Rattle.uartboot_flow.specs.State.{state}
use Rattle.uartboot_flow.specs.Device.{device}

-- the step of a taking
abbrev pub step_of : Taking → Step
step_of (taking.Header step) = Header step
step_of (taking.Payload opcode size place) = Command opcode size (TakePayload place)
step_of (taking.Go opcode size) = Command opcode size TakeGo
step_of (taking.AnswerGo opcode size) = Answer opcode size a.TakeGo
step_of (taking.HostCrcLow opcode size) = Answer opcode size a.TakeCrcLow
step_of (taking.HostCrcHigh opcode size low) = Answer opcode size (a.TakeCrcHigh low)

-- a step sends a byte, and then another step follows, whatever the memories and the last reason are
pub record SendsOn (step : Step) (byte : ℕ) (next : Step) : Type 0 where
  pub is : (reason : ℕ) (m : Memories) → does_at reason m step ≡ sends byte (goes reason m next)

pub record Halts (step : Step) : Type 0 where
  pub is : (reason : ℕ) (m : Memories) → does_at reason m step ≡ runs

-- a step sends this
abbrev pub SendsSo : Sending → Step → Type 0
SendsSo (sending.Byte byte next) step = SendsOn step byte next
SendsSo (sending.Acceptance opcode size) step = step ≡ Command opcode size SendAck
SendsSo (sending.Crc opcode size) step = step ≡ Command opcode size SendCrcLow
SendsSo (sending.CrcHigh opcode size) step = step ≡ Command opcode size SendCrcHigh
SendsSo (sending.Answer opcode size place) step = step ≡ Answer opcode size (a.SendAnswer place)

abbrev pub Asked : Ask Taking Sending → Step → Type 0
Asked (Take t) step = step ≡ step_of t
Asked (Send t) step = SendsSo t step
Asked Halt step = Halts step

-- what a sending may rely on
abbrev pub ReadyTo : Sending → Memories → Type 0
ReadyTo (sending.Byte byte next) m = Unit {0}
ReadyTo (sending.Acceptance opcode size) m = Ready (Command opcode size SendAck) m
ReadyTo (sending.Crc opcode size) m = Ready (Command opcode size SendCrcLow) m
ReadyTo (sending.CrcHigh opcode size) m = Ready (Command opcode size SendCrcHigh) m
ReadyTo (sending.Answer opcode size place) m = Ready (Answer opcode size (a.SendAnswer place)) m

-- what a sending sent, for each step that sends it
pub record SentSo (x : Sending) (reason : ℕ) (m : Memories) (j : ℕ) (old : List ℕ) (moved : Moved Step) (m' : Memories) (reply : List ℕ) : Type 0 where
  pub is : (step : Step) → SendsSo x step → Sent device (state step reason m) j old moved.count (state moved.step moved.reason m') reply
