-- What Version answers (rules, 6.9).
-- Assumes nothing.
use Rattle.std.specs.Prelude.{ℕ, List, [], ◌∷◌}

-- the 7 characters 0.0.0.3
abbrev pub version : List ℕ
version = 0x30 ∷ 0x2E ∷ 0x30 ∷ 0x2E ∷ 0x30 ∷ 0x2E ∷ 0x33 ∷ []
