-- `host_flow::ask::after_header`: by whether there is a payload.
-- Assumes nothing.
use borrow.Author.Tests.{eq-eqb, ne_eqb}
use Rattle.host_flow.proofs.ask.after_header.Goals as goal

pub returns-then-x-eq0 : goal.returns-then-x-eq0
returns-then-x-eq0 c = simp (c.behind_of.ensures, eq-eqb _ _ c.if-x-eq0.true)

pub returns-else-x-eq0 : goal.returns-else-x-eq0
returns-else-x-eq0 c = simp (ne_eqb _ _ c.if-x-eq0.false)
