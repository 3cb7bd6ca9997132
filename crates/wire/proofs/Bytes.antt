-- Lists of bytes, by a test that is computed.
-- Assumes nothing.
use Prim.Native.Nat.{ℕ}
use mathlib.Core.Path.{◌≡◌}
use mathlib.Core.Bool.{Bool, true, ◌&&◌}
use mathlib.Core.List.{List, [], ◌∷◌}
use lib.Dec.{ltb}
use borrow.Author.Tests.{ltb-true}
use Rattle.wire.specs.Bytes.{Bytes}
use Rattle.std.proofs.lemmas.Bool.{and_parts}

abbrev pub are_bytes : List ℕ → Bool
are_bytes [] = true
are_bytes (b ∷ bs) = ltb b 256 && are_bytes bs

pub are-bytes : (bs : List ℕ) → are_bytes bs ≡ true → Bytes bs
are-bytes [] e = tt
are-bytes (b ∷ bs) e = (ltb-true b 256 (and_parts (ltb b 256) (are_bytes bs) e).0, are-bytes bs (and_parts (ltb b 256) (are_bytes bs) e).1)
