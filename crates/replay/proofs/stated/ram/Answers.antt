-- `replay::stated::ram`: as stated.
-- Assumes nothing.
use Rattle.std.proofs.Common.{refl}
use Rattle.replay.specs.Stated.{blank_ram}
use Rattle.replay.proofs.stated.ram.Goals as goal

pub returns : goal.returns
unfolding blank_ram
returns c = refl
