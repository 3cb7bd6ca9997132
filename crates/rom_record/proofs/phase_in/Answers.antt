-- `rom_record::phase_in`: a phase's step, and none for a number that is no phase.
-- Assumes nothing.
use mathlib.Core.Path.{◌∙◌}
use native.Mathlib.Omega.{arith}
use Rattle.std.proofs.lemmas.Grind.{common_steps}
use Rattle.rom_record.specs.Record.{phase_in}
use Rattle.rom_record.proofs.phase_in.Goals as goal

pub returns-in-0 : goal.returns-in-0
unfolding phase_in
returns-in-0 c = simp c.in-0.is

pub returns-in-1 : goal.returns-in-1
unfolding phase_in
returns-in-1 c = simp c.in-1.is

pub returns-in-2 : goal.returns-in-2
unfolding phase_in
returns-in-2 c = simp c.in-2.is

pub returns-in-3 : goal.returns-in-3
unfolding phase_in
returns-in-3 c = simp c.in-3.is

pub returns-in-4 : goal.returns-in-4
unfolding phase_in
returns-in-4 c = c.extended.ensures ∙ simp c.in-4.is

pub returns-in-5 : goal.returns-in-5
unfolding phase_in
returns-in-5 c = c.extended-in-5.ensures ∙ simp c.in-5.is

pub returns-in-6 : goal.returns-in-6
unfolding phase_in
returns-in-6 c = c.sized.ensures ∙ simp c.in-6.is

pub returns-in-7 : goal.returns-in-7
unfolding phase_in
returns-in-7 c = c.sized-in-7.ensures ∙ simp c.in-7.is

pub returns-in-8 : goal.returns-in-8
unfolding phase_in
returns-in-8 c = c.sized-in-8.ensures ∙ simp c.in-8.is

pub returns-in-9 : goal.returns-in-9
unfolding phase_in
returns-in-9 c = c.sized-in-9.ensures ∙ simp c.in-9.is

pub returns-in-10 : goal.returns-in-10
unfolding phase_in
returns-in-10 c = simp c.in-10.is

pub returns-in-11 : goal.returns-in-11
unfolding phase_in
returns-in-11 c = c.running_in.ensures ∙ simp c.in-11.is

pub returns-in_default : goal.returns-in_default
unfolding phase_in
returns-in_default c = grind (arith, common_steps)
