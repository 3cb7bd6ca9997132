-- The code's XOR is a fold over its bytes.
-- Assumes nothing.
use Prim.Native.Nat.{ℕ}
use mathlib.Core.Path.{◌≡◌, refl}
use mathlib.Core.List.{List, [], ◌∷◌}
use Rattle.std.specs.Prelude.{fold}
use lib.Bits.{bit_xor}
use Rattle.rom_flow.specs.Flow.{xor_from}

pub xor-folds : (bytes : List ℕ) (x : ℕ) → fold bit_xor x bytes ≡ xor_from x bytes
xor-folds [] x = refl
xor-folds (b ∷ bytes) x = xor-folds bytes (bit_xor x b)

pub ruleset xors = (xor-folds)
