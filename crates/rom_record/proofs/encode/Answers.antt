-- `rom_record::encode`: the step's numbers with kind and reason.
-- Assumes nothing.
use mathlib.Core.Path.{refl}
use Rattle.rom_record.specs.Record.{written}
use Rattle.rom_record.proofs.encode.Goals as goal

pub returns : goal.returns
unfolding written
returns c = rw (c.into.ensures, c.fields_of-numbers.ensures) refl
