-- `host_turn::answer::send_crc_high`: one store is one send.
-- Assumes nothing.
use mathlib.Core.Path.{◌∙◌, ap}
use Rattle.numbers.specs.Number.{high_byte}
use Rattle.host_turn.proofs.Answers.{high-sent}
use Rattle.host_turn.proofs.answer.send_crc_high.Goals as goal

pub returns : goal.returns
returns c = rw (c.by_one.ensures, c.to.ensures) (record { is = λ opcode payload is. high-sent opcode _ payload _ _ is _ _ _ (c.high_byte.ensures ∙ ap high_byte c.crc_of.ensures) c.requires.1 })
