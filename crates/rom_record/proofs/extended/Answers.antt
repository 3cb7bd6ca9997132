-- `rom_record::extended`: by the kind.
-- Assumes nothing.
use Rattle.rom_record.proofs.extended.Goals as goal

pub returns-in-E : goal.returns-in-E
returns-in-E c = simp c.in-E.is
