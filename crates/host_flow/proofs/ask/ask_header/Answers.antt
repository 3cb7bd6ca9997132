-- `host_flow::ask::ask_header`: by the place.
-- Assumes nothing.
use borrow.Author.Tests.{lt-ltb, le-ltb}
use Prim.Native.Nat.{◌+◌}
use native.Mathlib.Omega.{arith}
use mathlib.Core.Path.{refl}
use Rattle.host_flow.proofs.ask.ask_header.Goals as goal

pub returns-then-place : goal.returns-then-place
returns-then-place c = record { is = λ reason l known. rw (known, c.header_byte-byte.ensures, lt-ltb (c.args.place + 1) 4 (omega (arith, c.if-place.true))) refl }

pub returns-else-place : goal.returns-else-place
returns-else-place c = record { is = λ reason l known. rw (known, c.header_byte-byte.ensures, le-ltb (c.args.place + 1) 4 (omega (arith, c.if-place.false))) refl }
