-- `host_turn::payload::send_payload`: one copy is as many sends.
-- Assumes nothing.
use Rattle.host_turn.proofs.Payloads.{payload-sent}
use Rattle.host_turn.proofs.payload.send_payload.Goals as goal

pub returns : goal.returns
returns c =
    record { is = λ opcode answer. payload-sent opcode _ _ answer _ c.requires.1 _ _ _ _ _ c.requires.0 c.requires.2 c.copy_up_to-count.ensures _ c.paid_step.ensures }
