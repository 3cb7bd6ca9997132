-- `host_turn::answer::send_crc`: the CRC is a word that is sent.
-- Assumes nothing.
use Rattle.host_turn.proofs.Answers.{crc-sent}
use Rattle.host_turn.proofs.answer.send_crc.Goals as goal

pub returns : goal.returns
returns c = record { is = λ opcode payload is. crc-sent opcode _ payload _ _ is _ _ _ c.crc_of-crc.ensures c.requires.1 _ _ c.send_word.ensures }
