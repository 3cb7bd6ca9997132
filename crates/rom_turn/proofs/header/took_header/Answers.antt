-- `rom_turn::header::took_header`: step by step.
-- Assumes nothing.
use borrow.Author.Tests.{eq-eqb, ne_eqb}
use Rattle.rom_turn.proofs.header.took_header.Goals as goal

pub returns-then-byte-eq-SOH : goal.returns-then-byte-eq-SOH
returns-then-byte-eq-SOH c = record { is = λ ram e. simp (c.to.ensures, c.in-TakeSoh.is, eq-eqb _ _ c.if-byte-eq-SOH.true) }

pub returns-else-byte-eq-SOH : goal.returns-else-byte-eq-SOH
returns-else-byte-eq-SOH c = record { is = λ ram e. simp (c.to-else-byte-eq-SOH.ensures, c.in-TakeSoh.is, ne_eqb _ _ c.if-byte-eq-SOH.false) }

pub returns-in-TakeLow : goal.returns-in-TakeLow
returns-in-TakeLow c = record { is = λ ram e. simp (c.to-in-TakeLow.ensures, c.in-TakeLow.is) }

pub returns-in-TakeHigh : goal.returns-in-TakeHigh
returns-in-TakeHigh c = record { is = λ ram e. simp (c.head.ensures.is ram e, c.pair.ensures, c.in-TakeHigh.is) }

pub returns-in-TakeExtendedLow : goal.returns-in-TakeExtendedLow
returns-in-TakeExtendedLow c = record { is = λ ram e. simp (c.to-in-TakeExtendedLow.ensures, c.in-TakeExtendedLow.is) }

pub returns-in-TakeExtendedHigh : goal.returns-in-TakeExtendedHigh
returns-in-TakeExtendedHigh c = record { is = λ ram e. simp ((c.judge.ensures.is c.args.kind).is ram e, c.pair-in-TakeExtendedHigh.ensures, c.in-TakeExtendedHigh.is) }
