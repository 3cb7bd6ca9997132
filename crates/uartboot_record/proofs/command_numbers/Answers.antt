-- `uartboot_record::command_numbers`: step by step.
-- Assumes nothing.
use Rattle.uartboot_record.proofs.command_numbers.Goals as goal

pub returns-in-SendAck : goal.returns-in-SendAck
returns-in-SendAck c = simp (c.fields.ensures, c.in-SendAck.is)

pub returns-in-TakePayload : goal.returns-in-TakePayload
returns-in-TakePayload c = simp (c.fields-in-TakePayload.ensures, c.in-TakePayload.is)

pub returns-in-SendPayloadAck : goal.returns-in-SendPayloadAck
returns-in-SendPayloadAck c = simp (c.fields-in-SendPayloadAck.ensures, c.in-SendPayloadAck.is)

pub returns-in-SendCrcLow : goal.returns-in-SendCrcLow
returns-in-SendCrcLow c = simp (c.fields-in-SendCrcLow.ensures, c.in-SendCrcLow.is)

pub returns-in-SendCrcHigh : goal.returns-in-SendCrcHigh
returns-in-SendCrcHigh c = simp (c.fields-in-SendCrcHigh.ensures, c.in-SendCrcHigh.is)

pub returns-in-TakeGo : goal.returns-in-TakeGo
returns-in-TakeGo c = simp (c.fields-in-TakeGo.ensures, c.in-TakeGo.is)
