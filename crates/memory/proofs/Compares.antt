-- The test of a part's front, as the library's slices have it.
-- Assumes nothing.
use Rattle.std.proofs.lemmas.Bool.Decides.{nat_tests}
use Rattle.std.specs.Cmp.Lexicographic.{pointwise}
use Prim.Native.Nat.{ℕ}
use mathlib.Core.Path.{◌≡◌, refl}
use mathlib.Core.List.{List, [], ◌∷◌}
use native.Mathlib.Omega.{arith}
use lib.Dec.{eqb}
use lib.ListN.{length, take}
use Rattle.memory.specs.Compare.{is_front}

pub starts_front : (bytes part : List ℕ) → pointwise eqb bytes (take (length bytes) part) ≡ is_front bytes part
starts_front [] part = refl
starts_front (byte ∷ bytes) [] = refl
starts_front (byte ∷ bytes) (there ∷ part) = grind (arith, nat_tests, starts_front bytes part)
