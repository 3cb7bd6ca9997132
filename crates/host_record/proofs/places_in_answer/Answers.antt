-- `host_record::places_in_answer`: by the phase.
-- Assumes nothing.
use borrow.Author.Tests.{eq-eqb, ne_eqb, lt-ltb, le-ltb}
use Rattle.host_record.proofs.places_in_answer.Goals as goal

pub returns-then-phase-lt11 : goal.returns-then-phase-lt11
returns-then-phase-lt11 c = simp (lt-ltb _ _ c.if-phase-lt11.true)

pub returns-then-phase-eq12 : goal.returns-then-phase-eq12
returns-then-phase-eq12 c = simp (le-ltb _ _ c.if-phase-lt11.false, eq-eqb _ _ c.if-phase-eq12.true)

pub returns-then-phase-lt16 : goal.returns-then-phase-lt16
returns-then-phase-lt16 c = simp (c.only_first.ensures, le-ltb _ _ c.if-phase-lt11.false, ne_eqb _ _ c.if-phase-eq12.false, lt-ltb _ _ c.if-phase-lt16.true)

pub returns : goal.returns
returns c = simp (le-ltb _ _ c.if-phase-lt11.false, ne_eqb _ _ c.if-phase-eq12.false, le-ltb _ _ c.if-phase-lt16.false)
