-- `host_flow::ask::ask_of`: step by step.
-- Assumes nothing.
use mathlib.Core.Path.{refl}
use Rattle.host_flow.proofs.ask.ask_of.Goals as goal

pub returns-in-TakeGreeting : goal.returns-in-TakeGreeting
returns-in-TakeGreeting c = rw c.in-TakeGreeting.is c.ask_greeting.ensures

pub returns-in-SendHeader : goal.returns-in-SendHeader
returns-in-SendHeader c = rw c.in-SendHeader.is c.ask_header.ensures

pub returns-in-TakeHeaderAck : goal.returns-in-TakeHeaderAck
returns-in-TakeHeaderAck c = rw (c.await_byte.ensures, c.after_header.ensures, c.in-TakeHeaderAck.is) (record { is = λ reason l known. rw known refl; never_leaves = refl })

pub returns-in-TakePayloadAck : goal.returns-in-TakePayloadAck
returns-in-TakePayloadAck c = rw (c.await_byte-in-TakePayloadAck.ensures, c.in-TakePayloadAck.is) (record { is = λ reason l known. refl; never_leaves = refl })

pub returns-in-SendGo : goal.returns-in-SendGo
returns-in-SendGo c = rw (c.say.ensures, c.behind_of.ensures, c.in-SendGo.is) (record { is = λ reason l known. rw known refl })

pub returns-in-SendNak : goal.returns-in-SendNak
returns-in-SendNak c = rw (c.say-in-SendNak.ensures, c.in-SendNak.is) (record { is = λ reason l known. refl })

pub returns-in-SendAnswerGo : goal.returns-in-SendAnswerGo
returns-in-SendAnswerGo c = rw (c.say-in-SendAnswerGo.ensures, c.in-SendAnswerGo.is) (record { is = λ reason l known. refl })

pub returns-in-TakeLastAck : goal.returns-in-TakeLastAck
returns-in-TakeLastAck c = rw (c.await_byte-in-TakeLastAck.ensures, c.in-TakeLastAck.is) (record { is = λ reason l known. refl; never_leaves = refl })
