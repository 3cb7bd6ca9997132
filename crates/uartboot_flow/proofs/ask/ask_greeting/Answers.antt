-- `uartboot_flow::ask::ask_greeting`: the last byte leads on.
-- Assumes nothing.
use borrow.Author.Tests.{lt-ltb, le-ltb}
use native.Mathlib.Omega.{arith}
use Prim.Native.Nat.{◌+◌}
use Rattle.uartboot_flow.proofs.ask.ask_greeting.Goals as goal

pub returns-then-place-lt-LAST_GREETING : goal.returns-then-place-lt-LAST_GREETING
returns-then-place-lt-LAST_GREETING c = record { is = λ reason m. simp (c.greeting_byte-byte.ensures, lt-ltb (c.args.place + 1) 4 (omega arith)) }

pub returns-else-place-lt-LAST_GREETING : goal.returns-else-place-lt-LAST_GREETING
returns-else-place-lt-LAST_GREETING c = record { is = λ reason m. simp (c.greeting_byte-byte.ensures, le-ltb (c.args.place + 1) 4 (omega arith)) }
