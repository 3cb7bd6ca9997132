-- `uartboot_answer::host::took_crc_high`: by the test.
-- Assumes nothing.
use borrow.Author.Tests.{eq-eqb, ne_eqb}
use mathlib.Core.Path.{sym, ◌∙◌}
use Rattle.uartboot_answer.proofs.host.took_crc_high.Goals as goal

pub returns-then-pair-crc_of : goal.returns-then-pair-crc_of
returns-then-pair-crc_of c = record { is = λ ram flash. simp (c.to.ensures, eq-eqb _ _ (sym c.pair.ensures ∙ c.if-pair-crc_of.true ∙ c.crc_of.ensures)) }

pub returns-else-pair-crc_of : goal.returns-else-pair-crc_of
returns-else-pair-crc_of c =
    record { is = λ ram flash. simp (c.to-else-pair-crc_of.ensures, ← c.pair.ensures, ← c.crc_of.ensures, ne_eqb _ _ c.if-pair-crc_of.false) }
