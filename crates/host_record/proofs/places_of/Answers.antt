-- `host_record::places_of`: by the phase.
-- Assumes nothing.
use Rattle.host_record.specs.Record.{places_of}
use borrow.Author.Tests.{eq-eqb, ne_eqb, lt-ltb, le-ltb}
use mathlib.Core.Path.{refl}
use Rattle.host_record.proofs.places_of.Goals as goal

pub returns-then-phase-eq0 : goal.returns-then-phase-eq0
unfolding places_of
returns-then-phase-eq0 c = rw (eq-eqb _ _ c.if-phase-eq0.true) refl

pub returns-then-phase-eq1 : goal.returns-then-phase-eq1
unfolding places_of
returns-then-phase-eq1 c = rw (ne_eqb _ _ c.if-phase-eq0.false, eq-eqb _ _ c.if-phase-eq1.true) refl

pub returns-then-phase-eq2 : goal.returns-then-phase-eq2
unfolding places_of
returns-then-phase-eq2 c = rw (ne_eqb _ _ c.if-phase-eq0.false, ne_eqb _ _ c.if-phase-eq1.false, eq-eqb _ _ c.if-phase-eq2.true) refl

pub returns-then-phase-eq3 : goal.returns-then-phase-eq3
unfolding places_of
returns-then-phase-eq3 c = rw (ne_eqb _ _ c.if-phase-eq0.false, ne_eqb _ _ c.if-phase-eq1.false, ne_eqb _ _ c.if-phase-eq2.false, eq-eqb _ _ c.if-phase-eq3.true) refl

pub returns-then-phase-lt9 : goal.returns-then-phase-lt9
unfolding places_of
returns-then-phase-lt9 c = rw (c.only_first.ensures, ne_eqb _ _ c.if-phase-eq0.false, ne_eqb _ _ c.if-phase-eq1.false, ne_eqb _ _ c.if-phase-eq2.false, ne_eqb _ _ c.if-phase-eq3.false, lt-ltb _ _ c.if-phase-lt9.true) refl

pub returns-then-phase-lt17 : goal.returns-then-phase-lt17
unfolding places_of
returns-then-phase-lt17 c = rw (c.places_behind.ensures, ne_eqb _ _ c.if-phase-eq0.false, ne_eqb _ _ c.if-phase-eq1.false, ne_eqb _ _ c.if-phase-eq2.false, ne_eqb _ _ c.if-phase-eq3.false, le-ltb _ _ c.if-phase-lt9.false, lt-ltb _ _ c.if-phase-lt17.true) refl

pub returns-then-phase-eq17 : goal.returns-then-phase-eq17
unfolding places_of
returns-then-phase-eq17 c = rw (ne_eqb _ _ c.if-phase-eq0.false, ne_eqb _ _ c.if-phase-eq1.false, ne_eqb _ _ c.if-phase-eq2.false, ne_eqb _ _ c.if-phase-eq3.false, le-ltb _ _ c.if-phase-lt9.false, le-ltb _ _ c.if-phase-lt17.false, eq-eqb _ _ c.if-phase-eq17.true) refl

pub returns : goal.returns
unfolding places_of
returns c = rw (ne_eqb _ _ c.if-phase-eq0.false, ne_eqb _ _ c.if-phase-eq1.false, ne_eqb _ _ c.if-phase-eq2.false, ne_eqb _ _ c.if-phase-eq3.false, le-ltb _ _ c.if-phase-lt9.false, le-ltb _ _ c.if-phase-lt17.false, ne_eqb _ _ c.if-phase-eq17.false) refl
