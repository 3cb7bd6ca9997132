-- `rom_turn::code::take_code`: one copy is as many single takes.
-- Assumes nothing.
use Rattle.rom_turn.proofs.Codes.{code-taken}
use Rattle.rom_turn.proofs.code.take_code.Goals as goal

pub returns : goal.returns
returns c =
    record {
      is = λ kind. code-taken kind _ _ _ _ _ _ _ _ c.requires.0 c.requires.1 c.requires.2 c.copy_up_to-count.ensures _ c.code_step.ensures;
    }
