-- `rom_record::fields_of`: step by step.
-- Assumes nothing.
use Rattle.rom_record.proofs.fields_of.Goals as goal

pub returns-in-SendStx : goal.returns-in-SendStx
returns-in-SendStx c = simp (c.fields.ensures, c.in-SendStx.is)

pub returns-in-SendAck : goal.returns-in-SendAck
returns-in-SendAck c = simp (c.fields-in-SendAck.ensures, c.in-SendAck.is)

pub returns-in-TakeCode : goal.returns-in-TakeCode
returns-in-TakeCode c = simp (c.fields-in-TakeCode.ensures, c.in-TakeCode.is)

pub returns-in-SendXor : goal.returns-in-SendXor
returns-in-SendXor c = simp (c.fields-in-SendXor.ensures, c.in-SendXor.is)

pub returns-in-TakeAck : goal.returns-in-TakeAck
returns-in-TakeAck c = simp (c.fields-in-TakeAck.ensures, c.in-TakeAck.is)

pub returns-in-SendNak : goal.returns-in-SendNak
returns-in-SendNak c = simp (c.fields-in-SendNak.ensures, c.in-SendNak.is)

pub returns-in-Running : goal.returns-in-Running
returns-in-Running c = simp (c.fields-in-Running.ensures, c.in-Running.is)
