-- `host_record::step_of`: phase by phase.
-- Assumes nothing.
use Rattle.host_record.specs.Record.{step_of}
use native.Mathlib.Omega.{arith}
use Rattle.std.proofs.lemmas.Grind.{common_steps}
use Rattle.host_record.proofs.step_of.Goals as goal

pub returns-in-0 : goal.returns-in-0
unfolding step_of
returns-in-0 c = simp c.in-0.is

pub returns-in-1 : goal.returns-in-1
unfolding step_of
returns-in-1 c = simp c.in-1.is

pub returns-in-2 : goal.returns-in-2
unfolding step_of
returns-in-2 c = simp c.in-2.is

pub returns-in-3 : goal.returns-in-3
unfolding step_of
returns-in-3 c = simp c.in-3.is

pub returns-in-4 : goal.returns-in-4
unfolding step_of
returns-in-4 c = simp c.in-4.is

pub returns-in-5 : goal.returns-in-5
unfolding step_of
returns-in-5 c = simp c.in-5.is

pub returns-in-6 : goal.returns-in-6
unfolding step_of
returns-in-6 c = simp c.in-6.is

pub returns-in-7 : goal.returns-in-7
unfolding step_of
returns-in-7 c = simp c.in-7.is

pub returns-in-8 : goal.returns-in-8
unfolding step_of
returns-in-8 c = simp c.in-8.is

pub returns-in-9 : goal.returns-in-9
unfolding step_of
returns-in-9 c = simp c.in-9.is

pub returns-in-10 : goal.returns-in-10
unfolding step_of
returns-in-10 c = simp c.in-10.is

pub returns-in-11 : goal.returns-in-11
unfolding step_of
returns-in-11 c = simp c.in-11.is

pub returns-in-12 : goal.returns-in-12
unfolding step_of
returns-in-12 c = simp c.in-12.is

pub returns-in-13 : goal.returns-in-13
unfolding step_of
returns-in-13 c = simp c.in-13.is

pub returns-in-14 : goal.returns-in-14
unfolding step_of
returns-in-14 c = simp c.in-14.is

pub returns-in-15 : goal.returns-in-15
unfolding step_of
returns-in-15 c = simp c.in-15.is

pub returns-in-16 : goal.returns-in-16
unfolding step_of
returns-in-16 c = simp c.in-16.is

pub returns-in_default : goal.returns-in_default
unfolding step_of
returns-in_default c = grind (arith, common_steps)
