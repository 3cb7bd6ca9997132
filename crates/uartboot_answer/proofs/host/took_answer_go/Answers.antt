-- `uartboot_answer::host::took_answer_go`: by the test.
-- Assumes nothing.
use borrow.Author.Tests.{eq-eqb, ne_eqb}
use Rattle.uartboot_answer.proofs.host.took_answer_go.Goals as goal

pub returns-then-byte-eq-ACK : goal.returns-then-byte-eq-ACK
returns-then-byte-eq-ACK c = record { is = λ m. simp (c.to.ensures, eq-eqb _ _ c.if-byte-eq-ACK.true) }

pub returns-else-byte-eq-ACK : goal.returns-else-byte-eq-ACK
returns-else-byte-eq-ACK c = record { is = λ m. simp (c.to-else-byte-eq-ACK.ensures, ne_eqb _ _ c.if-byte-eq-ACK.false) }
