-- What holds of every state that calls can reach.
-- Assumes nothing.
use Rattle.std.specs.Prelude.{ℕ, ◌<◌, ◌≡◌, true, length}
use Rattle.wire.specs.Unit.{is_in_ram}
use Rattle.command.specs.Payload.{Carried}
use Rattle.memory.specs.Memories.{Memories, Fitting}
use Rattle.command_execution.specs.Execution.{Answering}
use Rattle.uartboot_flow.specs.declared.step.Step.{Step}
use Rattle.uartboot_flow.specs.declared.step.Step.TheVariants.{Greeting, Header, Command, Answer, Refusal, Running}
use Rattle.uartboot_flow.specs.declared.step.CommandStep.{CommandStep}
use Rattle.uartboot_flow.specs.declared.step.CommandStep.TheVariants.{SendAck, TakePayload, SendPayloadAck, SendCrcLow, SendCrcHigh, TakeGo}
use Rattle.uartboot_flow.specs.declared.step.AnswerStep.{AnswerStep}
use Rattle.uartboot_flow.specs.declared.step.AnswerStep.TheVariants as a
use Rattle.uartboot_flow.specs.State.{State}
use Rattle.uartboot_flow.specs.Flow.{greeting_length}

-- a command without payload has only the header's 06; a payload's next byte lies in the payload
abbrev pub SoundCommand : (size : ℕ) → CommandStep → Type 0
SoundCommand size SendAck = Unit {0}
SoundCommand size (TakePayload place) = place < size
SoundCommand size SendPayloadAck = 0 < size
SoundCommand size SendCrcLow = 0 < size
SoundCommand size SendCrcHigh = 0 < size
SoundCommand size TakeGo = 0 < size

abbrev pub SoundAnswer : (size : ℕ) → AnswerStep → Type 0
SoundAnswer size a.SendLengthLow = Unit {0}
SoundAnswer size a.SendLengthHigh = Unit {0}
SoundAnswer size a.TakeGo = Unit {0}
SoundAnswer size (a.SendAnswer place) = place < size
SoundAnswer size a.TakeCrcLow = Unit {0}
SoundAnswer size (a.TakeCrcHigh low) = Unit {0}
SoundAnswer size a.SendAck = Unit {0}

-- with a RAM of `ram` bytes and a work buffer of `work` bytes
abbrev pub SoundStep : (ram work : ℕ) → Step → Type 0
SoundStep ram work (Greeting place) = place < greeting_length
SoundStep ram work (Header step) = Unit {0}
SoundStep ram work (Command opcode size step) = Carried opcode size work × SoundCommand size step
SoundStep ram work (Answer opcode size step) = Answering opcode size work × SoundAnswer size step
SoundStep ram work Refusal = Unit {0}
SoundStep ram work (Running address) = is_in_ram address ram ≡ true

-- a step to go on from, with these memories
pub record Ready (step : Step) (m : Memories) : Type 0 where
  pub fitting : Fitting (length m.ram) (length m.flash) (length m.work)
  pub step_sound : SoundStep (length m.ram) (length m.work) step

abbrev pub Sound : State → Type 0
Sound s = Ready s.step s.mem
