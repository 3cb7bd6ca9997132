-- `host_record::numbers_of`: step by step.
-- Assumes nothing.
use Rattle.host_record.proofs.numbers_of.Goals as goal

pub returns-in-TakeGreeting : goal.returns-in-TakeGreeting
returns-in-TakeGreeting c = simp (c.fields.ensures, c.in-TakeGreeting.is)

pub returns-in-SendHeader : goal.returns-in-SendHeader
returns-in-SendHeader c = simp (c.fields-in-SendHeader.ensures, c.in-SendHeader.is)

pub returns-in-TakeHeaderAck : goal.returns-in-TakeHeaderAck
returns-in-TakeHeaderAck c = simp (c.fields-in-TakeHeaderAck.ensures, c.in-TakeHeaderAck.is)

pub returns-in-SendPayload : goal.returns-in-SendPayload
returns-in-SendPayload c = simp (c.fields-in-SendPayload.ensures, c.in-SendPayload.is)

pub returns-in-TakePayloadAck : goal.returns-in-TakePayloadAck
returns-in-TakePayloadAck c = simp (c.fields-in-TakePayloadAck.ensures, c.in-TakePayloadAck.is)

pub returns-in-TakeCrcLow : goal.returns-in-TakeCrcLow
returns-in-TakeCrcLow c = simp (c.fields-in-TakeCrcLow.ensures, c.in-TakeCrcLow.is)

pub returns-in-TakeCrcHigh : goal.returns-in-TakeCrcHigh
returns-in-TakeCrcHigh c = simp (c.fields-in-TakeCrcHigh.ensures, c.in-TakeCrcHigh.is)

pub returns-in-SendGo : goal.returns-in-SendGo
returns-in-SendGo c = simp (c.fields-in-SendGo.ensures, c.in-SendGo.is)

pub returns-in-SendNak : goal.returns-in-SendNak
returns-in-SendNak c = simp (c.fields-in-SendNak.ensures, c.in-SendNak.is)

pub returns-in-TakeLengthLow : goal.returns-in-TakeLengthLow
returns-in-TakeLengthLow c = simp (c.fields-in-TakeLengthLow.ensures, c.in-TakeLengthLow.is)

pub returns-in-TakeLengthHigh : goal.returns-in-TakeLengthHigh
returns-in-TakeLengthHigh c = simp (c.fields-in-TakeLengthHigh.ensures, c.in-TakeLengthHigh.is)

pub returns-in-SendAnswerGo : goal.returns-in-SendAnswerGo
returns-in-SendAnswerGo c = simp (c.fields-in-SendAnswerGo.ensures, c.in-SendAnswerGo.is)

pub returns-in-TakeAnswer : goal.returns-in-TakeAnswer
returns-in-TakeAnswer c = simp (c.fields-in-TakeAnswer.ensures, c.in-TakeAnswer.is)

pub returns-in-SendCrcLow : goal.returns-in-SendCrcLow
returns-in-SendCrcLow c = simp (c.fields-in-SendCrcLow.ensures, c.in-SendCrcLow.is)

pub returns-in-SendCrcHigh : goal.returns-in-SendCrcHigh
returns-in-SendCrcHigh c = simp (c.fields-in-SendCrcHigh.ensures, c.in-SendCrcHigh.is)

pub returns-in-TakeLastAck : goal.returns-in-TakeLastAck
returns-in-TakeLastAck c = simp (c.fields-in-TakeLastAck.ensures, c.in-TakeLastAck.is)

pub returns-in-Look : goal.returns-in-Look
returns-in-Look c = simp (c.fields-in-Look.ensures, c.in-Look.is)

pub returns-in-Over : goal.returns-in-Over
returns-in-Over c = simp (c.fields-in-Over.ensures, c.in-Over.is)
