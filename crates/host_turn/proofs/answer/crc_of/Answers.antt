-- `host_turn::answer::crc_of`: the slice is that part of the answer buffer.
-- Assumes nothing.
use Rattle.host_flow.specs.Flow.{answer_crc}
use lib.Seq.{length-take-le}
use mathlib.Core.Path.{sym}
use Rattle.host_turn.proofs.answer.crc_of.Goals as goal

pub slice_bounds-crc_of-end : goal.slice_bounds-crc_of-end
slice_bounds-crc_of-end c = sym (length-take-le _ _ c.requires)

pub returns : goal.returns
unfolding answer_crc
returns c = c.crc_of.ensures
