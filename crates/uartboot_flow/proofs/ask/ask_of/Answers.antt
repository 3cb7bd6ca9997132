-- `uartboot_flow::ask::ask_of`: group by group.
-- Assumes nothing.
use mathlib.Core.Path.{refl}
use Rattle.uartboot_flow.proofs.ask.ask_of.Goals as goal

pub returns-in-Greeting : goal.returns-in-Greeting
returns-in-Greeting c = rw c.in-Greeting.is c.ask_greeting.ensures

pub returns-in-Command : goal.returns-in-Command
returns-in-Command c = rw c.in-Command.is c.ask_command.ensures

pub returns-in-Answer : goal.returns-in-Answer
returns-in-Answer c = rw c.in-Answer.is c.ask_answer.ensures

pub returns-in-Refusal : goal.returns-in-Refusal
returns-in-Refusal c = rw c.in-Refusal.is (record { is = λ reason m. refl })

pub returns-in-Running : goal.returns-in-Running
returns-in-Running c = rw c.in-Running.is (record { is = λ reason m. refl })
