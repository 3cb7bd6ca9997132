-- What is read agrees with what is judged.
-- Assumes nothing.
use Prim.Native.Nat.{ℕ, ◌+◌, ◌≤◌}
use mathlib.Core.List.{List}
use native.Mathlib.Omega.{arith}
use lib.ListN.{length}
use borrow.Author.Tests.{le-leb}
use Rattle.image.specs.Header.{header_length}
use Rattle.image.specs.Valid.{image_at}
use Rattle.image.proofs.Images.{valid-inside}
use Rattle.inspect.specs.Image.{read_image}
use Rattle.inspect.specs.Laws.{SameImage}

pub same-image : (memory : List ℕ) (offset : ℕ) → SameImage memory offset
unfolding image_at read_image
same-image memory offset e =
    let h : offset + header_length ≤ length memory = omega (arith, valid-inside memory offset e) in
    simp (e, le-leb _ _ h)
