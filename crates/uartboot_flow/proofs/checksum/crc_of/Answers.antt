-- `uartboot_flow::checksum::crc_of`: the slice is that part of the work buffer.
-- Assumes nothing.
use mathlib.Core.Path.{sym}
use lib.Seq.{length-take-le}
use Rattle.uartboot_flow.specs.Flow.{crc16}
use Rattle.uartboot_flow.proofs.checksum.crc_of.Goals as goal

pub slice_bounds-crc_of-end : goal.slice_bounds-crc_of-end
slice_bounds-crc_of-end c = sym (length-take-le _ _ c.requires)

pub returns : goal.returns
unfolding crc16
returns c = c.crc_of.ensures
