-- `uartboot_record::numbers_of`: by the group of steps.
-- Assumes nothing.
use Rattle.uartboot_record.proofs.numbers_of.Goals as goal

pub returns-in-Greeting : goal.returns-in-Greeting
returns-in-Greeting c = simp (c.fields.ensures, c.in-Greeting.is)

pub returns-in-Command : goal.returns-in-Command
returns-in-Command c = simp (c.command_numbers.ensures, c.number.ensures, c.in-Command.is)

pub returns-in-Answer : goal.returns-in-Answer
returns-in-Answer c = simp (c.answer_numbers.ensures, c.number-in-Answer.ensures, c.in-Answer.is)

pub returns-in-Refusal : goal.returns-in-Refusal
returns-in-Refusal c = simp (c.fields-in-Refusal.ensures, c.in-Refusal.is)

pub returns-in-Running : goal.returns-in-Running
returns-in-Running c = simp (c.fields-in-Running.ensures, c.number-in-Running.ensures, c.in-Running.is)
