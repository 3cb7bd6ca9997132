-- `uartboot_record::encode`: the step's numbers with kind and reason.
-- Assumes nothing.
use Rattle.uartboot_record.specs.Record.{written}
use Rattle.uartboot_record.proofs.encode.Goals as goal

pub returns : goal.returns
unfolding written
returns c = simp c.numbers_of-n.ensures
