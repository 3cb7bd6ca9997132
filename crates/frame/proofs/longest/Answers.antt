-- `frame::longest`: by the kind.
-- Assumes nothing.
use Rattle.frame.proofs.longest.Goals as goal

pub returns-in-P : goal.returns-in-P
returns-in-P c = simp c.in-P.is

pub returns-in-E : goal.returns-in-E
returns-in-E c = simp c.in-E.is
