-- `host_record::encode`: the step's numbers with kind and reason.
-- Assumes nothing.
use Rattle.host_record.specs.Record.{written}
use mathlib.Core.Path.{refl}
use Rattle.host_record.proofs.encode.Goals as goal

pub returns : goal.returns
unfolding written
returns c = rw c.numbers_of-numbers.ensures refl
