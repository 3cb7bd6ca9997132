-- `host_turn::byte::took_crc_low`: the byte is held.
-- Assumes nothing.
use Rattle.host_turn.proofs.byte.took_crc_low.Goals as goal

pub returns : goal.returns
returns c = record { is = λ l. simp c.to.ensures }
