-- `version::rank::numbers`: in each turn one number more is read.
-- Assumes nothing.
use Rattle.version.proofs.Ranking.{Ranking}
use Rattle.version.proofs.rank.numbers.Given as goal

abbrev pub invariant-loop-number : goal.invariant-loop-number
invariant-loop-number l = Ranking l.field l.number-items l.at l.number-index
