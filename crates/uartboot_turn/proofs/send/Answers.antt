-- `uartboot_turn::send`: each sending by the part that sends it.
-- Assumes nothing.
use Rattle.uartboot_turn.proofs.Ones.{sends-one}
use mathlib.Core.Path.{refl}
use Rattle.uartboot_turn.proofs.send.Goals as goal

pub accept-requires : goal.accept-requires
accept-requires c = let h = rw c.in-Acceptance.is at c.requires.ready_to in record { carried = h.step_sound.0; fitting = h.fitting }

pub send_crc-requires : goal.send_crc-requires
send_crc-requires c = ((rw c.in-Crc.is at c.requires.ready_to).step_sound.0.in_work, c.requires.j_in_bounds)

pub send_crc_high-requires : goal.send_crc_high-requires
send_crc_high-requires c = ((rw c.in-CrcHigh.is at c.requires.ready_to).step_sound.0.in_work, c.requires.j_in_bounds)

pub send_answer-requires : goal.send_answer-requires
send_answer-requires c = let h = rw c.in-Answer.is at c.requires.ready_to in (h.step_sound.1, h.step_sound.0.in_work, c.requires.j_in_bounds)

pub returns-in-Byte : goal.returns-in-Byte
returns-in-Byte c = record { is = λ step so. sends-one _ _ _ step _ _ ((rw c.in-Byte.is at so).is _ _) _ _ c.requires.j_in_bounds _ (rw c.to.ensures refl) _ c.by_one.ensures }

pub returns-in-Acceptance : goal.returns-in-Acceptance
returns-in-Acceptance c = record { is = λ step so. sends-one _ _ _ step _ _ (rw (rw c.in-Acceptance.is at so) refl) _ _ c.requires.j_in_bounds _ c.accept.ensures _ c.by_one-in-Acceptance.ensures }

pub returns-in-Crc : goal.returns-in-Crc
returns-in-Crc c = record { is = λ step so. rw (rw c.in-Crc.is at so) (c.send_crc.ensures.is _ _) }

pub returns-in-CrcHigh : goal.returns-in-CrcHigh
returns-in-CrcHigh c = record { is = λ step so. rw (rw c.in-CrcHigh.is at so) (c.send_crc_high.ensures.is _ _) }

pub returns-in-Answer : goal.returns-in-Answer
returns-in-Answer c = record { is = λ step so. rw (rw c.in-Answer.is at so) (c.send_answer.ensures.is _ _) }
