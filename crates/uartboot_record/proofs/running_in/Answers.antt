-- `uartboot_record::running_in`: by the opcode, and by whether the address lies in RAM.
-- Assumes nothing.
use mathlib.Core.Path.{sym, ◌∙◌}
use borrow.Author.Tests.{eq-eqb, ne_eqb}
use Rattle.uartboot_record.proofs.running_in.Goals as goal

pub returns-then-opcode-number : goal.returns-then-opcode-number
returns-then-opcode-number c = simp (ne_eqb _ _ (λ e. c.if-opcode-number.true (e ∙ sym c.number.ensures)))
