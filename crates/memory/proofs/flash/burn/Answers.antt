-- `memory::flash::burn`: what is left from `i` on makes of the part what all of it makes of the part at first.
-- Assumes nothing.
use mathlib.Core.Path.{refl}
use native.Mathlib.Omega.{arith}
use lib.Bits.{bit_and}
use Rattle.memory.specs.Flash.{burnt}
use Rattle.memory.proofs.Stores.{stored_more, stored-all}
use Rattle.memory.proofs.flash.burn.Goals as goal

pub loop-i-preserved : goal.loop-i-preserved
loop-i-preserved c =
    stored_more burnt _ c.loop-i.part _ c.loop-i.i c.loop-i.invariant bit_and (λ _ _ _ _. refl) c.loop-i-test.true (omega arith)

pub returns : goal.returns
returns c = stored-all burnt _ _ _ c.loop-i.i c.loop-i.invariant (λ _. refl) c.loop-i-test.false
