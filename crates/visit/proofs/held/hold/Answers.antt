-- `visit::held::hold`: the verdict from here on is the verdict from the first reply on.
-- Assumes nothing.
use Rattle.std.proofs.Common.{refl, sym, ◌∙◌, arith}
use Rattle.visit.proofs.Holding.{one-there}
use Rattle.visit.proofs.held.hold.Goals as goal

pub past-run-requires-clause-count_bound : goal.past-run-requires-clause-count_bound
past-run-requires-clause-count_bound c =
    one-there c.loop-byte.invariant (omega arith) _ refl (sym c.is_next.ensures ∙ c.if-not-is_next.false)
