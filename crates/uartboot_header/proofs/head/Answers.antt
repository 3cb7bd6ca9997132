-- `uartboot_header::head`: test by test; a length within the work buffer fits 32 bits.
-- Assumes nothing.
use mathlib.Core.Path.{sym, ◌∙◌}
use native.Mathlib.Omega.{arith}
use borrow.Author.Tests.{lt-ltb, le-ltb}
use Rattle.wire.proofs.Lengths.{work-bounds}
use Rattle.uartboot_header.proofs.head.Goals as goal

pub returns-in_default : goal.returns-in_default
returns-in_default c =
    let unknown = sym c.opcode_of.ensures ∙ c.in_default.is in
    record { is = λ ram flash. simp (c.to.ensures, unknown) }

pub returns-then-not-has_length : goal.returns-then-not-has_length
returns-then-not-has_length c =
    let known = sym c.opcode_of.ensures ∙ c.in-Some.is in
    let not-has = sym c.has_length.ensures ∙ c.if-not-has_length.true in
    record { is = λ ram flash. simp (c.to-then-not-has_length.ensures, known, not-has) }

pub returns-then-work-size : goal.returns-then-work-size
returns-then-work-size c =
    let known = sym c.opcode_of.ensures ∙ c.in-Some.is in
    let has = sym c.has_length.ensures ∙ c.if-not-has_length.false in
    record { is = λ ram flash. simp (c.to-then-work-size.ensures, known, has, lt-ltb _ _ c.if-work-size.true) }

pub overflow_cast-size : goal.overflow_cast-size
overflow_cast-size c = omega (arith, (work-bounds _ c.requires).1)

pub returns : goal.returns
returns c =
    let known = sym c.opcode_of.ensures ∙ c.in-Some.is in
    let has = sym c.has_length.ensures ∙ c.if-not-has_length.false in
    record { is = λ ram flash. simp (c.to-2.ensures, known, has, le-ltb _ _ c.if-work-size.false) }
