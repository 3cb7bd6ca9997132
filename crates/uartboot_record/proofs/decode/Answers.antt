-- `uartboot_record::decode`: by the kind's number and the place.
-- Assumes nothing.
use native.Mathlib.Omega.{arith}
use borrow.Author.Tests.{lt-ltb, le-ltb, eq-eqb}
use Rattle.uartboot_flow.specs.Fresh.{kind_number}
use Rattle.uartboot_record.specs.Record.{step_in, decoded_of}
use Rattle.uartboot_record.proofs.decode.Goals as goal

pub returns-then-n-places_of : goal.returns-then-n-places_of
unfolding decoded_of step_in
returns-then-n-places_of c =
    let placed = rw (c.places_of.ensures, c.fields-n.ensures) at c.if-n-places_of.true in
    simp (c.phase_in.ensures, c.fields-n.ensures, lt-ltb _ _ placed, eq-eqb c.args.session.kind kind_number (omega arith))

pub returns-else-n-places_of : goal.returns-else-n-places_of
unfolding decoded_of step_in
returns-else-n-places_of c =
    let past = rw (c.places_of.ensures, c.fields-n.ensures) at c.if-n-places_of.false in
    simp (le-ltb _ _ past, eq-eqb c.args.session.kind kind_number (omega arith))
