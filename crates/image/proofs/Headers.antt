-- What is known of an image by whether its header lies in the memory.
-- Assumes nothing.
use Rattle.std.specs.Prelude.{Some, None}
use Prim.Native.Nat.{ℕ, ◌+◌, ◌≤◌}
use mathlib.Core.Path.{◌≡◌}
use mathlib.Core.List.{List}
use lib.ListN.{length}
use Rattle.wire.specs.Range.{place_in}
use Rattle.wire.proofs.Ranges.{range-over, lies-inside, lies-fits}
use Rattle.image.specs.declared.rule.Rule.TheVariants.{Header}
use Rattle.image.specs.Header.{header_length}
use Rattle.image.specs.Rule.{first_broken}

module _ (memory : List ℕ) (offset : ℕ) where
  pub headed : (place : ℕ) → place_in offset header_length 0 (length memory) ≡ Some place → offset + header_length ≤ length memory
  headed place e = lies-fits _ _ _ (lies-inside offset header_length 0 (length memory) place e)

  pub unheaded : place_in offset header_length 0 (length memory) ≡ None → first_broken memory offset ≡ Some Header
  unfolding first_broken
  unheaded e = simp (range-over offset header_length (length memory) e)

pub ruleset headers = (headed, unheaded)
