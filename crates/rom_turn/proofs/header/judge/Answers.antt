-- `rom_turn::header::judge`: by the test.
-- Assumes nothing.
use borrow.Author.Tests.{le-leb, lt-leb}
use Rattle.rom_turn.proofs.header.judge.Goals as goal

pub returns-then-total-size : goal.returns-then-total-size
returns-then-total-size c = record { is = λ kind. record { is = λ ram e. simp (c.to.ensures, e, le-leb _ _ c.if-total-size.true) } }

pub returns-else-total-size : goal.returns-else-total-size
returns-else-total-size c = record { is = λ kind. record { is = λ ram e. simp (c.to-else-total-size.ensures, e, lt-leb _ _ c.if-total-size.false) } }
