-- `uartboot_answer::host::took_crc_low`: the byte is kept.
-- Assumes nothing.
use Rattle.uartboot_answer.proofs.host.took_crc_low.Goals as goal

pub returns : goal.returns
returns c = record { is = λ m. simp c.to.ensures }
