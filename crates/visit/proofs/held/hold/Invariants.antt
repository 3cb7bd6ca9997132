-- `visit::held::hold`: the verdict from here on is the verdict from the first reply on.
-- Assumes nothing.
use Rattle.visit.proofs.Holding.{held_of, Going}
use Rattle.visit.proofs.held.hold.Given as goal

abbrev pub invariant-loop-byte : goal.invariant-loop-byte
invariant-loop-byte l = Going l.fn.held l.replies l.byte-index (held_of l.run l.place)
