-- `host_flow::ask::ask_greeting`: by the place.
-- Assumes nothing.
use borrow.Author.Tests.{eq-eqb, ne_eqb, lt-ltb, le-ltb}
use native.Mathlib.Omega.{arith}
use Prim.Native.Nat.{◌+◌}
use mathlib.Core.Path.{refl}
use Rattle.host_flow.proofs.ask.ask_greeting.Goals as goal

pub returns-then-place-eq0 : goal.returns-then-place-eq0
returns-then-place-eq0 c = record { is = λ reason l known. rw (eq-eqb _ _ c.if-place-eq0.true) refl; never_leaves = refl }

pub returns-then-place : goal.returns-then-place
returns-then-place c = record { is = λ reason l known. rw (ne_eqb _ _ c.if-place-eq0.false, lt-ltb (c.args.place + 1) 4 (omega (arith, c.if-place.true))) refl; never_leaves = refl }

pub returns : goal.returns
returns c = record { is = λ reason l known. rw (ne_eqb _ _ c.if-place-eq0.false, le-ltb (c.args.place + 1) 4 (omega (arith, c.if-place.false))) refl; never_leaves = refl }
