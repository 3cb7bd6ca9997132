-- `replay::stated::flash`: as stated.
-- Assumes nothing.
use Rattle.std.proofs.Common.{refl}
use Rattle.replay.specs.Stated.{blank_flash}
use Rattle.replay.proofs.stated.flash.Goals as goal

pub returns : goal.returns
unfolding blank_flash
returns c = refl
