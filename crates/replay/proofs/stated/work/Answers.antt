-- `replay::stated::work`: as stated.
-- Assumes nothing.
use Rattle.std.proofs.Common.{refl}
use Rattle.replay.specs.Stated.{blank_work}
use Rattle.replay.proofs.stated.work.Goals as goal

pub returns : goal.returns
unfolding blank_work
returns c = refl
