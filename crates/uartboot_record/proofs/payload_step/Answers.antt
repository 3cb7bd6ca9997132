-- `uartboot_record::payload_step`: by the phase.
-- Assumes nothing.
use Rattle.uartboot_record.proofs.payload_step.Goals as goal

pub returns-in-6 : goal.returns-in-6
returns-in-6 c = simp c.in-6.is

pub returns-in-7 : goal.returns-in-7
returns-in-7 c = simp c.in-7.is

pub returns-in-8 : goal.returns-in-8
returns-in-8 c = simp c.in-8.is

pub returns-in-9 : goal.returns-in-9
returns-in-9 c = simp c.in-9.is
