-- `host_flow::ask::header_byte`: by the place.
-- Assumes nothing.
use Rattle.host_flow.proofs.ask.header_byte.Goals as goal

pub returns-in-0 : goal.returns-in-0
returns-in-0 c = simp c.in-0.is

pub returns-in-1 : goal.returns-in-1
returns-in-1 c = simp c.in-1.is

pub returns-in-2 : goal.returns-in-2
returns-in-2 c = simp (c.low_byte.ensures, c.in-2.is)
