-- `memory::store::lay`: what is left from `i` on makes of the part what all of it makes of the part at first.
-- Assumes nothing.
use mathlib.Core.Path.{◌≡◌}
use lib.ListN.{drop}
use Rattle.memory.specs.Store.{laid, changed_from}
use Rattle.memory.proofs.store.lay.Given as goal

abbrev pub invariant-loop-i : goal.invariant-loop-i
invariant-loop-i l = changed_from l.i (laid (drop l.i l.bytes)) l.part ≡ laid l.bytes l.initial.part
