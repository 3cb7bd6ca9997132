-- `uartboot::session::check_lengths`: each return by the tests that led there.
-- Assumes nothing.
use mathlib.Core.Path.{sym, ◌∙◌}
use Rattle.uartboot.specs.Session.{refusal_of}
use Rattle.uartboot.proofs.session.check_lengths.Goals as goal

pub returns-then-not-is_work_length : goal.returns-then-not-is_work_length
unfolding refusal_of
returns-then-not-is_work_length c = simp (sym c.is_work_length.ensures ∙ c.if-not-is_work_length.true)

pub returns-then-not-is_ram_length : goal.returns-then-not-is_ram_length
unfolding refusal_of
returns-then-not-is_ram_length c = simp (sym c.is_work_length.ensures ∙ c.if-not-is_work_length.false, sym c.is_ram_length.ensures ∙ c.if-not-is_ram_length.true)

pub returns-then-not-is_flash_length : goal.returns-then-not-is_flash_length
unfolding refusal_of
returns-then-not-is_flash_length c = simp (sym c.is_work_length.ensures ∙ c.if-not-is_work_length.false, sym c.is_ram_length.ensures ∙ c.if-not-is_ram_length.false, sym c.is_flash_length.ensures ∙ c.if-not-is_flash_length.true)

pub returns : goal.returns
unfolding refusal_of
returns c = simp (sym c.is_work_length.ensures ∙ c.if-not-is_work_length.false, sym c.is_ram_length.ensures ∙ c.if-not-is_ram_length.false, sym c.is_flash_length.ensures ∙ c.if-not-is_flash_length.false)
