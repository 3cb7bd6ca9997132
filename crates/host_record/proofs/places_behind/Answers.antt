-- `host_record::places_behind`: by what follows.
-- Assumes nothing.
use borrow.Author.Tests.{eq-eqb, ne_eqb}
use Rattle.host_record.proofs.places_behind.Goals as goal

pub returns-in-Answers : goal.returns-in-Answers
returns-in-Answers c = simp (c.places_in_answer.ensures, c.in-Answers.is)

pub returns-then-phase-eq16 : goal.returns-then-phase-eq16
returns-then-phase-eq16 c = simp (c.in-Greets.is, eq-eqb _ _ c.if-phase-eq16.true)

pub returns-else-phase-eq16 : goal.returns-else-phase-eq16
returns-else-phase-eq16 c = simp (c.in-Greets.is, ne_eqb _ _ c.if-phase-eq16.false)
