-- What the program asks of a step, and what that says of the flow.
-- Assumes nothing.
use Rattle.std.specs.Prelude.{ℕ, ◌≤◌, ◌≡◌, List}
use Rattle.machine.specs.Does.{sends, runs}
use Rattle.machine.specs.Steps.{Sent}
use Rattle.rom_flow.specs.declared.kind.Kind.{Kind}
use Rattle.rom_flow.specs.declared.step.Step.{Step}
use Rattle.rom_flow.specs.declared.step.Step.TheVariants.{Header, TakeCode, SendXor, TakeAck}
use Rattle.machine.specs.declared.step.Moved.{Moved}
use Rattle.rom_flow.specs.declared.ask.Taking.{Taking}
use Rattle.rom_flow.specs.declared.ask.Taking.TheVariants as taking
use Rattle.rom_flow.specs.declared.ask.Sending.{Sending}
use Rattle.rom_flow.specs.declared.ask.Sending.TheVariants.{Byte, Xor}
use Rattle.machine.specs.declared.ask.Ask.{Ask}
use Rattle.machine.specs.declared.ask.Ask.TheVariants.{Take, Send, Halt}
use Rattle.rom_flow.specs.State.{state}
use Rattle.rom_flow.specs.Flow.{goes, does_at}
use Rattle.rom_flow.specs.Receiver.{receiver}

-- the step of a taking
abbrev pub step_of : Taking → Step
step_of (taking.Header step) = Header step
step_of (taking.Code total place) = TakeCode total place
step_of (taking.Ack total) = TakeAck total

-- a step sends a byte, and then another step follows, whatever kind, RAM and last reason are
pub record SendsOn (step : Step) (byte : ℕ) (next : Step) : Type 0 where
  pub is : (kind : Kind) (reason : ℕ) (ram : List ℕ) → does_at kind reason ram step ≡ sends byte (goes kind reason ram next)

-- a step sends this
abbrev pub SendsSo : Sending → Step → Type 0
SendsSo (Byte byte next) step = SendsOn step byte next
SendsSo (Xor total) step = step ≡ SendXor total

-- the bytes that a sending needs lie in a RAM of `size` bytes
abbrev pub InRam : Sending → (size : ℕ) → Type 0
InRam (Byte byte next) size = Unit {0}
InRam (Xor total) size = total ≤ size

pub record Halts (step : Step) : Type 0 where
  pub is : (kind : Kind) (reason : ℕ) (ram : List ℕ) → does_at kind reason ram step ≡ runs

abbrev pub Asked : Ask Taking Sending → Step → Type 0
Asked (Take t) step = step ≡ step_of t
Asked (Send t) step = SendsSo t step
Asked Halt step = Halts step

-- what a sending sent, for each kind and each step that sends it
pub record SentSo (sending : Sending) (reason : ℕ) (ram : List ℕ) (j : ℕ) (old : List ℕ) (moved : Moved Step) (reply : List ℕ) : Type 0 where
  pub is : (kind : Kind) (step : Step) → SendsSo sending step →
      Sent receiver (state kind step reason ram) j old moved.count (state kind moved.step moved.reason ram) reply
