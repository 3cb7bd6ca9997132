-- `uartboot_header::took_header`: step by step.
-- Assumes nothing.
use borrow.Author.Tests.{eq-eqb, ne_eqb}
use Rattle.uartboot_header.proofs.took_header.Goals as goal

pub returns-then-byte-eq-SOH : goal.returns-then-byte-eq-SOH
returns-then-byte-eq-SOH c =
    record { is = λ ram flash. simp (c.to.ensures, c.in-TakeSoh.is, eq-eqb _ _ c.if-byte-eq-SOH.true) }

pub returns-else-byte-eq-SOH : goal.returns-else-byte-eq-SOH
returns-else-byte-eq-SOH c =
    record { is = λ ram flash. simp (c.to-else-byte-eq-SOH.ensures, c.in-TakeSoh.is, ne_eqb _ _ c.if-byte-eq-SOH.false) }

pub returns-in-TakeOpcode : goal.returns-in-TakeOpcode
returns-in-TakeOpcode c = record { is = λ ram flash. simp (c.to-in-TakeOpcode.ensures, c.in-TakeOpcode.is) }

pub returns-in-TakeLow : goal.returns-in-TakeLow
returns-in-TakeLow c = record { is = λ ram flash. simp (c.to-in-TakeLow.ensures, c.in-TakeLow.is) }

pub returns-in-TakeHigh : goal.returns-in-TakeHigh
returns-in-TakeHigh c =
    record { is = λ ram flash. simp (c.head.ensures.is ram flash, c.pair.ensures, c.in-TakeHigh.is) }
