-- `uartboot_payload::checksum::send_crc_high`: one store is one send.
-- Assumes nothing.
use Rattle.uartboot_payload.proofs.Checksums.{high-sent}
use Rattle.numbers.specs.Number.{high_byte}
use mathlib.Core.Path.{◌∙◌, ap}
use Rattle.uartboot_payload.proofs.checksum.send_crc_high.Goals as goal

pub returns : goal.returns
returns c = rw (c.by_one.ensures, c.to.ensures) (record { is = λ ram flash. high-sent _ _ _ _ _ _ _ (c.high_byte.ensures ∙ ap high_byte c.crc_of.ensures) c.requires.1 })
