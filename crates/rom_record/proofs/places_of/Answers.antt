-- `rom_record::places_of`: by the phase.
-- Assumes nothing.
use borrow.Author.Tests.{eq-eqb, ne_eqb}
use Rattle.rom_record.proofs.places_of.Goals as goal

pub returns-then-phase-eq7 : goal.returns-then-phase-eq7
returns-then-phase-eq7 c = simp (eq-eqb _ _ c.if-phase-eq7.true)

pub returns-else-phase-eq7 : goal.returns-else-phase-eq7
returns-else-phase-eq7 c = simp (ne_eqb _ _ c.if-phase-eq7.false)
