-- `sheet::part_at`: nothing where the code's bytes do not lie in the file.
-- Assumes nothing.
use Rattle.std.proofs.Common.{sym, ◌∙◌}
use Rattle.sheet.proofs.Taken.{read-nothing}
use Rattle.sheet.proofs.part_at.Goals as goal

pub returns-in-None : goal.returns-in-None
returns-in-None c = read-nothing _ _ _ c.code_in-size.ensures (sym c.place_in.ensures ∙ c.in-None.is)
