-- `rom_turn::take`: each taking by the part that takes it.
-- Assumes nothing.
use mathlib.Core.Path.{refl}
use native.Mathlib.Omega.{arith}
use Rattle.wire.proofs.Lengths.{ram-bounds}
use Rattle.rom_turn.proofs.Ones.{takes_one}
use Rattle.rom_turn.proofs.take.Goals as goal

pub overflow_cast-ram : goal.overflow_cast-ram
overflow_cast-ram c = omega (arith, (ram-bounds _ c.requires.ready.fits).1)

pub take_code-requires : goal.take_code-requires
take_code-requires c =
    let h = rw c.in-Code.is at c.requires.ready.step_sound in
    (h.0, h.1, c.requires.i_in_bounds)

pub returns-in-Header : goal.returns-in-Header
returns-in-Header c =
    takes_one _ _ _ _ _ c.in-Header.is _ _ c.requires.i_in_bounds c.took_header.result (c.took_header.ensures.is _ refl) _ c.by_one.ensures

pub returns-in-Code : goal.returns-in-Code
returns-in-Code c =
    rw c.in-Code.is (c.take_code.ensures.is c.args.kind)

pub returns-in-Ack : goal.returns-in-Ack
returns-in-Ack c =
    takes_one _ _ _ _ _ c.in-Ack.is _ _ c.requires.i_in_bounds c.took_ack.result (c.took_ack.ensures.is _ _) _ c.by_one-in-Ack.ensures
