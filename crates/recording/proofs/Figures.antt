-- The worked files, by computation of the definition.
-- Assumes nothing.
use mathlib.Core.Path.{◌≡◌, refl}
use mathlib.Core.List.{map}
use Rattle.numbers.specs.Number.{number_at, read_at}
use Rattle.recording.specs.Form.{head_fault, size_in, entry_fault}
use Rattle.recording.specs.Recording.{entries_at, entries_of, recording_of}
use Rattle.recording.specs.Figures.{Figure, given, figures}

pub figures-hold : map given figures ≡ map (λ (f : Figure). f.wanted) figures
unfolding number_at read_at head_fault size_in entry_fault entries_at entries_of recording_of
figures-hold = refl
