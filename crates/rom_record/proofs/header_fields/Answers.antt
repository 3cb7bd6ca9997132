-- `rom_record::header_fields`: step by step.
-- Assumes nothing.
use Rattle.rom_record.proofs.header_fields.Goals as goal

pub returns-in-TakeSoh : goal.returns-in-TakeSoh
returns-in-TakeSoh c = simp (c.fields.ensures, c.in-TakeSoh.is)

pub returns-in-TakeLow : goal.returns-in-TakeLow
returns-in-TakeLow c = simp (c.fields-in-TakeLow.ensures, c.in-TakeLow.is)

pub returns-in-TakeHigh : goal.returns-in-TakeHigh
returns-in-TakeHigh c = simp (c.fields-in-TakeHigh.ensures, c.in-TakeHigh.is)

pub returns-in-TakeExtendedLow : goal.returns-in-TakeExtendedLow
returns-in-TakeExtendedLow c = simp (c.fields-in-TakeExtendedLow.ensures, c.in-TakeExtendedLow.is)

pub returns-in-TakeExtendedHigh : goal.returns-in-TakeExtendedHigh
returns-in-TakeExtendedHigh c = simp (c.fields-in-TakeExtendedHigh.ensures, c.in-TakeExtendedHigh.is)
