-- `host_turn::byte::took_length_low`: by the tests.
-- Assumes nothing.
use borrow.Author.Tests.{eq-eqb, ne_eqb}
use mathlib.Core.Bool.{and-false}
use mathlib.Core.Path.{refl, sym, ◌∙◌}
use Rattle.host_turn.proofs.byte.took_length_low.Goals as goal

pub returns-then-byte-low_byte : goal.returns-then-byte-low_byte
returns-then-byte-low_byte c = record { is = λ l is. rw (c.to.ensures, is, eq-eqb _ _ (c.if-byte-low_byte.true ∙ c.low_byte.ensures), and-false) refl }

pub returns-then-byte-eq-NAK : goal.returns-then-byte-eq-NAK
returns-then-byte-eq-NAK c = record { is = λ l is. rw (c.to-then-byte-eq-NAK.ensures, is, eq-eqb _ _ c.if-byte-eq-NAK.true, ne_eqb _ _ (λ e. c.if-byte-low_byte.false (e ∙ sym c.low_byte.ensures))) refl }

pub returns : goal.returns
returns c = record { is = λ l is. rw (c.to-2.ensures, is, ne_eqb _ _ c.if-byte-eq-NAK.false) refl }
