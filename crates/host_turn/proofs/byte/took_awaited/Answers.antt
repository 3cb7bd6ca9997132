-- `host_turn::byte::took_awaited`: by the tests.
-- Assumes nothing.
use borrow.Author.Tests.{eq-eqb, ne_eqb}
use Rattle.host_turn.proofs.byte.took_awaited.Goals as goal

pub returns-then-byte-wanted : goal.returns-then-byte-wanted
returns-then-byte-wanted c = record { is = λ l. simp (c.to.ensures, eq-eqb _ _ c.if-byte-wanted.true) }

pub returns-then-byte-eq-NAK : goal.returns-then-byte-eq-NAK
returns-then-byte-eq-NAK c = record { is = λ l. simp (c.to-then-byte-eq-NAK.ensures, ne_eqb _ _ c.if-byte-wanted.false, eq-eqb _ _ c.if-byte-eq-NAK.true) }

pub returns : goal.returns
returns c = record { is = λ l. simp (c.to-2.ensures, ne_eqb _ _ c.if-byte-wanted.false, ne_eqb _ _ c.if-byte-eq-NAK.false) }
