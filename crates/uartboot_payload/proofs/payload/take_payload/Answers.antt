-- `uartboot_payload::payload::take_payload`: one copy is as many takes.
-- Assumes nothing.
use Rattle.uartboot_payload.proofs.Payloads.{payload-taken}
use Rattle.uartboot_payload.proofs.payload.take_payload.Goals as goal

pub returns : goal.returns
returns c =
    payload-taken _ _ _ _ _ _ _ _ _ _ _ c.requires.place_lt_size.0 c.requires.carried.in_work c.requires.place_lt_size.1 c.copy_up_to-count.ensures _ c.arrived-after.ensures
