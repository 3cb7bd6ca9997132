-- `uartboot_payload::checksum::send_crc`: the CRC is a word that is sent.
-- Assumes nothing.
use Rattle.uartboot_payload.proofs.Checksums.{crc-sent}
use Rattle.uartboot_payload.proofs.checksum.send_crc.Goals as goal

pub returns : goal.returns
returns c = record { is = λ ram flash. crc-sent _ _ _ _ _ _ _ c.crc_of-crc.ensures c.requires.1 _ _ c.send_word.ensures }
