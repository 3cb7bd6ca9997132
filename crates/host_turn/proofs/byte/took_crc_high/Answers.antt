-- `host_turn::byte::took_crc_high`: by the comparison.
-- Assumes nothing.
use Rattle.host_flow.specs.Flow.{payload_crc}
use borrow.Author.Tests.{eq-eqb, ne_eqb}
use mathlib.Core.Path.{sym, ◌∙◌}
use Rattle.host_turn.proofs.byte.took_crc_high.Goals as goal

pub returns-then-pair-crc_of : goal.returns-then-pair-crc_of
unfolding payload_crc
returns-then-pair-crc_of c = record { is = λ opcode answer. simp (c.to.ensures, eq-eqb _ _ (sym c.pair.ensures ∙ c.if-pair-crc_of.true ∙ c.crc_of.ensures)) }

pub returns-else-pair-crc_of : goal.returns-else-pair-crc_of
unfolding payload_crc
returns-else-pair-crc_of c = record { is = λ opcode answer. simp (c.to-else-pair-crc_of.ensures, ne_eqb _ _ (λ e. c.if-pair-crc_of.false (c.pair.ensures ∙ e ∙ sym c.crc_of.ensures))) }
