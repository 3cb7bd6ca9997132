-- `rom_turn::code::code_step`: by the test.
-- Assumes nothing.
use borrow.Author.Tests.{lt-ltb, le-ltb}
use Rattle.rom_turn.proofs.code.code_step.Goals as goal

pub returns-then-count-total : goal.returns-then-count-total
returns-then-count-total c = simp (lt-ltb _ _ c.if-count-total.true)

pub returns-else-count-total : goal.returns-else-count-total
returns-else-count-total c = simp (le-ltb _ _ c.if-count-total.false)
