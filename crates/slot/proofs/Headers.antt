-- What is known of a product header by where it is found.
-- Assumes nothing.
use Rattle.std.specs.Prelude.{Some, None}
use Prim.Native.Nat.{ℕ, ◌+◌, ◌≤◌}
use mathlib.Core.Path.{◌≡◌}
use mathlib.Core.List.{List}
use mathlib.Core.Bool.{true, false}
use native.Mathlib.Omega.{arith}
use lib.ListN.{length}
use Rattle.wire.specs.declared.unit.FlashOffset.{FlashOffset}
use Rattle.wire.specs.Unit.{flash_place}
use Rattle.wire.proofs.Ranges.{range-known, lies-inside, lies-outside, lies-fits}
use Rattle.slot.specs.Product.{product_length, product_inside}

module _ (flash : List ℕ) (offset : ℕ) where
  pub header-start : (place : ℕ) → flash_place (record { 0 = offset }) product_length (length flash) ≡ Some place → place ≡ offset
  header-start place e = omega (arith, (range-known offset product_length 0 (length flash) place e).2)

  pub header-fits : (place : ℕ) → flash_place (record { 0 = offset }) product_length (length flash) ≡ Some place →
      offset + product_length ≤ length flash
  header-fits place e = lies-fits _ _ _ (lies-inside offset product_length 0 (length flash) place e)

  pub header-inside : (place : ℕ) → flash_place (record { 0 = offset }) product_length (length flash) ≡ Some place →
      product_inside flash offset ≡ true
  unfolding product_inside
  header-inside place e = lies-inside offset product_length 0 (length flash) place e

  pub header-outside : flash_place (record { 0 = offset }) product_length (length flash) ≡ None → product_inside flash offset ≡ false
  unfolding product_inside
  header-outside e = lies-outside offset product_length 0 (length flash) e

pub ruleset headers = (header-start, header-fits, header-inside, header-outside)
