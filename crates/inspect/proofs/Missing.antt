-- What is read where no header lies in the memory.
-- Assumes nothing.
use Rattle.std.specs.Prelude.{Option, Some, None, is_some}
use Prim.Native.Nat.{ℕ}
use mathlib.Core.Path.{◌≡◌, sym, refl}
use mathlib.Core.List.{List}
use mathlib.Core.Bool.{false}
use lib.ListN.{length}
use Rattle.std.proofs.lemmas.Bool.{false≢true}
use Rattle.wire.specs.Range.{place_in}
use Rattle.wire.proofs.Ranges.{range-over}
use Rattle.image.specs.Header.{header_length}
use Rattle.image.specs.Rule.{first_broken}
use Rattle.image.proofs.Headers.{headed}
use Rattle.inspect.specs.Image.{read_image}

none : (place : Option ℕ) → is_some place ≡ false → place ≡ None
none None e = refl
none (Some place) e = absurd (false≢true (sym e))

pub missing : (memory : List ℕ) (offset : ℕ) → is_some (place_in offset header_length 0 (length memory)) ≡ false →
    read_image memory offset ≡ record { rule = 1; id = 0; size = 0; version_place = 0; code_place = 0 }
unfolding read_image first_broken
missing memory offset e = simp (range-over offset header_length (length memory) (none _ e))

pub ruleset headers = (headed, missing)
