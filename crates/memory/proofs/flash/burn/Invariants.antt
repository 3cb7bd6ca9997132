-- `memory::flash::burn`: what is left from `i` on makes of the part what all of it makes of the part at first.
-- Assumes nothing.
use mathlib.Core.Path.{◌≡◌}
use lib.ListN.{drop}
use Rattle.memory.specs.Store.{changed_from}
use Rattle.memory.specs.Flash.{burnt}
use Rattle.memory.proofs.flash.burn.Given as goal

abbrev pub invariant-loop-i : goal.invariant-loop-i
invariant-loop-i l = changed_from l.i (burnt (drop l.i l.bytes)) l.part ≡ burnt l.bytes l.initial.part
