-- `host_turn::answer::collected_step`: by the test.
-- Assumes nothing.
use borrow.Author.Tests.{lt-ltb, le-ltb}
use Rattle.host_turn.proofs.answer.collected_step.Goals as goal

pub returns-then-count-size : goal.returns-then-count-size
returns-then-count-size c = simp (lt-ltb _ _ c.if-count-size.true)

pub returns-else-count-size : goal.returns-else-count-size
returns-else-count-size c = simp (le-ltb _ _ c.if-count-size.false)
