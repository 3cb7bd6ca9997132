-- `uartboot_record::header_numbers`: step by step.
-- Assumes nothing.
use Rattle.uartboot_record.proofs.header_numbers.Goals as goal

pub returns-in-TakeSoh : goal.returns-in-TakeSoh
returns-in-TakeSoh c = simp (c.fields.ensures, c.in-TakeSoh.is)

pub returns-in-TakeOpcode : goal.returns-in-TakeOpcode
returns-in-TakeOpcode c = simp (c.fields-in-TakeOpcode.ensures, c.in-TakeOpcode.is)

pub returns-in-TakeLow : goal.returns-in-TakeLow
returns-in-TakeLow c = simp (c.fields-in-TakeLow.ensures, c.in-TakeLow.is)

pub returns-in-TakeHigh : goal.returns-in-TakeHigh
returns-in-TakeHigh c = simp (c.fields-in-TakeHigh.ensures, c.in-TakeHigh.is)
