-- `uartboot_execution::after_execution`: by the ending.
-- Assumes nothing.
use Rattle.uartboot_execution.proofs.after_execution.Goals as goal

pub returns-in-Silent : goal.returns-in-Silent
returns-in-Silent c = record { is = λ m. simp (c.to.ensures, c.in-Silent.is) }

pub returns-in-Answers : goal.returns-in-Answers
returns-in-Answers c = record { is = λ m. simp (c.to-in-Answers.ensures, c.in-Answers.is) }

pub returns-in-Runs : goal.returns-in-Runs
returns-in-Runs c = record { is = λ m. simp (c.to-in-Runs.ensures, c.in-Runs.is) }

pub returns-in-Failed : goal.returns-in-Failed
returns-in-Failed c = record { is = λ m. simp (c.to-in-Failed.ensures, c.in-Failed.is) }
