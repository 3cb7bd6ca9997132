-- `host_turn::byte::took_length_high`: by the tests.
-- Assumes nothing.
use borrow.Author.Tests.{eq-eqb, ne_eqb}
use mathlib.Core.Bool.{and-false}
use mathlib.Core.Path.{refl, sym, ◌∙◌}
use Rattle.host_turn.proofs.byte.took_length_high.Goals as goal

pub returns-then-size-awaited : goal.returns-then-size-awaited
returns-then-size-awaited c = record { is = λ l is. rw (c.to.ensures, is, ne_eqb _ _ (λ e. c.if-size-awaited.true (c.pair-size.ensures ∙ e))) refl }

pub returns-then-size-eq0 : goal.returns-then-size-eq0
returns-then-size-eq0 c = record { is = λ l is. rw (c.to-then-size-eq0.ensures, is, eq-eqb _ _ (sym c.pair-size.ensures ∙ c.if-size-eq0.true), and-false) refl }

pub returns : goal.returns
returns c = record { is = λ l is. rw (c.to-2.ensures, is, eq-eqb _ _ (sym c.pair-size.ensures ∙ c.if-size-awaited.false), ne_eqb _ _ (λ e. c.if-size-eq0.false (c.pair-size.ensures ∙ e))) refl }
