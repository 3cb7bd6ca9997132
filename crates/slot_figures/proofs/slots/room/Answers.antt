-- `slot_figures::slots::room`: the array has the length that its type says.
-- Assumes nothing.
use Rattle.std.proofs.Common.{ℕ, sym}
use Rattle.std.proofs.lemmas.List.{length-replicate}
use Rattle.slot_figures.proofs.slots.room.Goals as goal

pub returns : goal.returns
returns c = sym (length-replicate {A = ℕ} 4198400 0)
