-- The worked trays, by computation of the definition.
-- Assumes nothing.
use mathlib.Core.Path.{◌≡◌, refl}
use mathlib.Core.List.{map}
use Rattle.version.specs.Text.{is_number, well_formed}
use Rattle.version.specs.Rank.{rank_of}
use Rattle.tray.specs.Tray.{entry_of, entries_of, is_tray, tray_of}
use Rattle.tray.specs.Figures.{Figure, given, figures}

pub figures-hold : map given figures ≡ map (λ (f : Figure). f.wanted) figures
unfolding is_number well_formed rank_of entry_of entries_of is_tray tray_of
figures-hold = refl
