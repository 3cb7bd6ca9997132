-- `memory::copy::copy_up_to`: the copy into the part is one into the whole memory.
-- Assumes nothing.
use Rattle.memory.proofs.Copies.{copied}
use Rattle.memory.proofs.copy.copy_up_to.Goals as goal

pub returns : goal.returns
returns c =
    copied _ _ _ _ _ _ _ c.requires c.min-count.ensures
    c.lay.ensures
