-- `uartboot_record::places_of`: by the phase.
-- Assumes nothing.
use Rattle.uartboot_record.proofs.places_of.Goals as goal

pub returns-in-0 : goal.returns-in-0
returns-in-0 c = simp c.in-0.is

pub returns-in-6 : goal.returns-in-6
returns-in-6 c = simp c.in-6.is

pub returns-in-14 : goal.returns-in-14
returns-in-14 c = simp c.in-14.is
