-- `rom_turn::header::head`: by the test.
-- Assumes nothing.
use borrow.Author.Tests.{eq-eqb, ne_eqb}
use Rattle.rom_turn.proofs.header.head.Goals as goal

pub returns-then-total-eq0 : goal.returns-then-total-eq0
returns-then-total-eq0 c = record { is = λ ram e. simp (c.zero_length.ensures.is ram e, eq-eqb _ _ c.if-total-eq0.true) }

pub returns-else-total-eq0 : goal.returns-else-total-eq0
returns-else-total-eq0 c = record { is = λ ram e. simp ((c.judge.ensures.is c.args.kind).is ram e, ne_eqb _ _ c.if-total-eq0.false) }
