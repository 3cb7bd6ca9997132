-- `uartboot_flow::ask::ask_answer`: step by step.
-- Assumes nothing.
use mathlib.Core.Path.{refl}
use Rattle.uartboot_flow.proofs.ask.ask_answer.Goals as goal

pub returns-in-SendLengthLow : goal.returns-in-SendLengthLow
returns-in-SendLengthLow c = rw (c.say.ensures, c.low_byte.ensures, c.in-SendLengthLow.is) (record { is = λ reason m. refl })

pub returns-in-SendLengthHigh : goal.returns-in-SendLengthHigh
returns-in-SendLengthHigh c = rw (c.say-in-SendLengthHigh.ensures, c.high_byte.ensures, c.in-SendLengthHigh.is) (record { is = λ reason m. refl })

pub returns-in-SendAck : goal.returns-in-SendAck
returns-in-SendAck c = rw c.in-SendAck.is (record { is = λ reason m. refl })
