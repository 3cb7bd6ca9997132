-- `rom_turn::header::zero_length`: by the kind.
-- Assumes nothing.
use Rattle.rom_turn.proofs.header.zero_length.Goals as goal

pub returns-in-P : goal.returns-in-P
returns-in-P c = record { is = λ ram e. simp (c.to.ensures, c.in-P.is) }

pub returns-in-E : goal.returns-in-E
returns-in-E c = record { is = λ ram e. simp (c.to-in-E.ensures, c.in-E.is) }
