-- `frame::header_length`: by whether the length is extended.
-- Assumes nothing.
use Rattle.frame.specs.Frame.{length_field}
use Rattle.frame.proofs.header_length.Goals as goal

pub returns-then-is_extended : goal.returns-then-is_extended
unfolding length_field
returns-then-is_extended c = simp (← c.is_extended.ensures, c.if-is_extended.true)

pub returns-else-is_extended : goal.returns-else-is_extended
unfolding length_field
returns-else-is_extended c = simp (← c.is_extended.ensures, c.if-is_extended.false)
