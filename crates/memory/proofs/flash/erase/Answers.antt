-- `memory::flash::erase`: the sectors that touch the area are wiped as one part, which lies in flash.
-- Assumes nothing.
use mathlib.Core.Path.{refl}
use native.Mathlib.Omega.{arith}
use Rattle.memory.proofs.Flashes.{sectors-in, erased-part}
use Rattle.memory.proofs.flash.erase.Goals as goal

pub slice_bounds-wipe-end : goal.slice_bounds-wipe-end
slice_bounds-wipe-end c = omega (arith, sectors-in c.args.offset c.args.size c.args.flash.now c.requires)

pub returns : goal.returns
returns c =
    rw c.wipe.ensures (erased-part _ _ c.args.flash.now c.requires _ _ refl refl)
