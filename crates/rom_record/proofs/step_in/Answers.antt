-- `rom_record::step_in`: by the number of places.
-- Assumes nothing.
use borrow.Author.Tests.{lt-ltb, le-ltb}
use Rattle.rom_record.specs.Record.{step_in}
use Rattle.rom_record.proofs.step_in.Goals as goal

pub returns-then-numbers-places_of : goal.returns-then-numbers-places_of
unfolding step_in
returns-then-numbers-places_of c = simp (c.phase_in.ensures, ← c.places_of.ensures, lt-ltb _ _ c.if-numbers-places_of.true)

pub returns-else-numbers-places_of : goal.returns-else-numbers-places_of
unfolding step_in
returns-else-numbers-places_of c = simp (← c.places_of.ensures, le-ltb _ _ c.if-numbers-places_of.false)
