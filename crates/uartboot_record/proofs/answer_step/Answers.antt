-- `uartboot_record::answer_step`: by the phase.
-- Assumes nothing.
use Rattle.uartboot_record.proofs.answer_step.Goals as goal

pub returns-in-11 : goal.returns-in-11
returns-in-11 c = simp c.in-11.is

pub returns-in-12 : goal.returns-in-12
returns-in-12 c = simp c.in-12.is

pub returns-in-13 : goal.returns-in-13
returns-in-13 c = simp c.in-13.is

pub returns-in-14 : goal.returns-in-14
returns-in-14 c = simp c.in-14.is

pub returns-in-15 : goal.returns-in-15
returns-in-15 c = simp c.in-15.is

pub returns-in-16 : goal.returns-in-16
returns-in-16 c = simp c.in-16.is
