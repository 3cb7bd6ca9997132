-- `rom_turn::send`: a byte that is given, or the XOR.
-- Assumes nothing.
use mathlib.Core.Path.{refl}
use Rattle.rom_turn.proofs.Ones.{sends-one}
use Rattle.rom_turn.proofs.send.Goals as goal

pub xor_of-requires : goal.xor_of-requires
xor_of-requires c = rw c.in-Xor.is at c.requires.in_ram

pub returns-in-Byte : goal.returns-in-Byte
returns-in-Byte c =
    record {
      is = λ kind step so. sends-one kind _ _ step _ _ ((rw c.in-Byte.is at so).is kind _ _) _ _ c.requires.j_in_bounds _ c.to.ensures _ c.by_one.ensures;
    }

pub returns-in-Xor : goal.returns-in-Xor
returns-in-Xor c =
    record {
      is = λ kind step so. sends-one kind _ _ step _ _ (rw (rw c.in-Xor.is at so, c.xor_of.ensures) refl) _ _ c.requires.j_in_bounds _ c.to-in-Xor.ensures _ c.by_one-in-Xor.ensures;
    }
