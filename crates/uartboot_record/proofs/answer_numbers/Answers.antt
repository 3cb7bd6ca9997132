-- `uartboot_record::answer_numbers`: step by step.
-- Assumes nothing.
use Rattle.uartboot_record.proofs.answer_numbers.Goals as goal

pub returns-in-SendLengthLow : goal.returns-in-SendLengthLow
returns-in-SendLengthLow c = simp (c.fields.ensures, c.in-SendLengthLow.is)

pub returns-in-SendLengthHigh : goal.returns-in-SendLengthHigh
returns-in-SendLengthHigh c = simp (c.fields-in-SendLengthHigh.ensures, c.in-SendLengthHigh.is)

pub returns-in-TakeGo : goal.returns-in-TakeGo
returns-in-TakeGo c = simp (c.fields-in-TakeGo.ensures, c.in-TakeGo.is)

pub returns-in-SendAnswer : goal.returns-in-SendAnswer
returns-in-SendAnswer c = simp (c.fields-in-SendAnswer.ensures, c.in-SendAnswer.is)

pub returns-in-TakeCrcLow : goal.returns-in-TakeCrcLow
returns-in-TakeCrcLow c = simp (c.fields-in-TakeCrcLow.ensures, c.in-TakeCrcLow.is)

pub returns-in-TakeCrcHigh : goal.returns-in-TakeCrcHigh
returns-in-TakeCrcHigh c = simp (c.fields-in-TakeCrcHigh.ensures, c.in-TakeCrcHigh.is)

pub returns-in-SendAck : goal.returns-in-SendAck
returns-in-SendAck c = simp (c.fields-in-SendAck.ensures, c.in-SendAck.is)
