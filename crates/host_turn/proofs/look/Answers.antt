-- `host_turn::look`: by the test.
-- Assumes nothing.
use Rattle.host_flow.specs.State.{State}
use Rattle.host_flow.specs.declared.step.Step.TheVariants.{Over}
use Rattle.host_command.specs.Exchange.{lent}
use borrow.Author.Tests.{eq-eqb, ne_eqb}
use mathlib.Core.List.{[]}
use mathlib.Core.Path.{◌≡◌, refl, ap}
use Rattle.host_turn.proofs.look.Goals as goal

pub returns-then-byte-eq-STX : goal.returns-then-byte-eq-STX
returns-then-byte-eq-STX c = record { over = refl; is = λ l. rw (eq-eqb _ _ c.if-byte-eq-STX.true) refl; count_is = rw (eq-eqb _ _ c.if-byte-eq-STX.true) refl }

pub returns : goal.returns
returns c =
    let other = ne_eqb _ _ c.if-byte-eq-STX.false in
    let ended : c.took_awaited.result.step ≡ Over = rw other at (ap (λ (s : State). s.step) (c.took_awaited.ensures.is (lent 0 [] []))) in
    rw c.by_one.ensures (record { over = ended; is = c.took_awaited.ensures.is; count_is = rw other refl })
