-- How many bytes a uartboot session sends before it takes one or code runs (rules, 3.4).
-- Assumes nothing.
use Rattle.std.specs.Prelude.{ℕ, suc, ◌-◌, cond, eqb}
use Rattle.opcodes.specs.declared.Opcode.{Opcode}
use Rattle.command_execution.specs.declared.Ending.{Ending}
use Rattle.command_execution.specs.declared.Ending.TheVariants.{Silent, Answers, Runs, Failed}
use Rattle.memory.specs.Memories.{Memories}
use Rattle.command_execution.specs.Execution.{executed}
use Rattle.uartboot_flow.specs.declared.step.Step.{Step}
use Rattle.uartboot_flow.specs.declared.step.Step.TheVariants.{Greeting, Header, Command, Answer, Refusal, Running}
use Rattle.uartboot_flow.specs.declared.step.CommandStep.{CommandStep}
use Rattle.uartboot_flow.specs.declared.step.CommandStep.TheVariants.{SendAck, TakePayload, SendPayloadAck, SendCrcLow, SendCrcHigh, TakeGo}
use Rattle.uartboot_flow.specs.declared.step.AnswerStep.{AnswerStep}
use Rattle.uartboot_flow.specs.declared.step.AnswerStep.TheVariants as a
use Rattle.uartboot_flow.specs.State.{State}
use Rattle.uartboot_flow.specs.Flow.{greeting_length}

-- after an execution, by its ending: the greeting, an answer's length, nothing, or 15 and the greeting
abbrev pub due_behind : Ending → ℕ
due_behind Silent = greeting_length
due_behind (Answers size) = 2
due_behind (Runs address) = 0
due_behind (Failed why) = suc greeting_length

abbrev pub due_command : Memories → Opcode → (size : ℕ) → CommandStep → ℕ
due_command m opcode size SendAck = suc (cond (eqb size 0) (due_behind (executed opcode size m).ending) 0)
due_command m opcode size (TakePayload place) = 0
due_command m opcode size SendPayloadAck = 3
due_command m opcode size SendCrcLow = 2
due_command m opcode size SendCrcHigh = 1
due_command m opcode size TakeGo = 0

abbrev pub due_answer : (size : ℕ) → AnswerStep → ℕ
due_answer size a.SendLengthLow = 2
due_answer size a.SendLengthHigh = 1
due_answer size a.TakeGo = 0
due_answer size (a.SendAnswer place) = size - place
due_answer size a.TakeCrcLow = 0
due_answer size (a.TakeCrcHigh low) = 0
due_answer size a.SendAck = suc greeting_length

abbrev pub due_at : Memories → Step → ℕ
due_at m (Greeting place) = greeting_length - place
due_at m (Header step) = 0
due_at m (Command opcode size step) = due_command m opcode size step
due_at m (Answer opcode size step) = due_answer size step
due_at m Refusal = suc greeting_length
due_at m (Running address) = 0

abbrev pub due : State → ℕ
due s = due_at s.mem s.step
