-- What it means that an image was found.
-- Assumes nothing.
use Prim.Native.Nat.{ℕ, ◌+◌, ◌≤◌}
use mathlib.Core.Path.{◌≡◌, sym, refl, ap}
use mathlib.Core.List.{List}
use mathlib.Core.Bool.{Bool, true, false, cond}
use native.Mathlib.Omega.{arith}
use lib.Dec.{eqb, leb}
use lib.ListN.{length}
use borrow.Author.Tests.{leb-true}
use borrow.Table.Steps.{cases}
use Rattle.std.specs.Prelude.{Option, Some, None}
use Rattle.std.proofs.lemmas.Option.{cond_some}
use Rattle.image.specs.declared.rule.Rule.{Rule}
use Rattle.image.specs.declared.Image.{Image}
use Rattle.image.specs.Header.{id_at, size_at, header_length}
use Rattle.image.specs.Rule.{rule_number, first_broken}
use Rattle.image.specs.Valid.{is_valid, image_at}

-- whether no rule is broken, by a test
by-test : (t : Bool) (rule later : Option Rule) → eqb (rule_number (cond t rule later)) 0 ≡ cond t (eqb (rule_number rule) 0) (eqb (rule_number later) 0)
by-test true rule later = refl
by-test false rule later = refl

either : (t : Bool) → cond t false false ≡ false
either true = refl
either false = refl

module _ (memory : List ℕ) (offset : ℕ) where
  -- a valid image lies wholly in its memory
  pub valid-inside : is_valid memory offset ≡ true → offset + header_length + size_at memory offset ≤ length memory
  unfolding is_valid first_broken
  valid-inside e =
      let end = offset + header_length + size_at memory offset in
      cases (leb end (length memory))
      (λ t. leb-true end (length memory) t)
      (λ t. absurd (let q : false ≡ true = simp (t, by-test, either) at e in let z : ◌≡◌ {A = ℕ} 0 1 = cc in omega arith))

  module _ (image : Image) (found : image_at memory offset ≡ Some image) where
    found-both : (is_valid memory offset ≡ true) × (record { id = id_at memory offset; size = size_at memory offset } ≡ image)
    unfolding image_at
    found-both = cond_some (is_valid memory offset) _ image found

    pub found-size : image.size ≡ size_at memory offset
    found-size = ap (λ (i : Image). i.size) (sym found-both.1)

    pub found_inside : offset + header_length + image.size ≤ length memory
    found_inside = omega (arith, valid-inside found-both.0, found-size)
