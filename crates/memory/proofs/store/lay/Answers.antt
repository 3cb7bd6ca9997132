-- `memory::store::lay`: what is left from `i` on makes of the part what all of it makes of the part at first.
-- Assumes nothing.
use mathlib.Core.Path.{refl}
use Rattle.memory.specs.Store.{laid}
use Rattle.memory.proofs.Stores.{stored-all}
use Rattle.memory.proofs.store.lay.Goals as goal

pub returns : goal.returns
returns c = stored-all laid _ _ _ c.loop-i.i c.loop-i.invariant (λ _. refl) c.loop-i-test.false
