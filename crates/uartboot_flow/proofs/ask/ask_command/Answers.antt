-- `uartboot_flow::ask::ask_command`: step by step.
-- Assumes nothing.
use mathlib.Core.Path.{refl}
use Rattle.uartboot_flow.proofs.ask.ask_command.Goals as goal

pub returns-in-SendPayloadAck : goal.returns-in-SendPayloadAck
returns-in-SendPayloadAck c = rw c.in-SendPayloadAck.is (record { is = λ reason m. refl })
