-- `frame::is_extended`: by the kind, and for kind E by the length.
-- Assumes nothing.
use Rattle.frame.proofs.is_extended.Goals as goal

pub returns-in-E : goal.returns-in-E
returns-in-E c = simp c.in-E.is
