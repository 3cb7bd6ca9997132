-- Laws of ranges: what a judgement says.
-- Assumes nothing.
use Rattle.std.proofs.lemmas.Bool.Decides.{nat_tests}
use Rattle.std.specs.Prelude.{Some, None}
use Prim.Native.Nat.{ℕ, ◌+◌, ◌-◌, ◌≤◌, ◌<◌}
use mathlib.Core.Path.{◌≡◌}
use mathlib.Core.Bool.{true, false}
use native.Mathlib.Omega.{arith}
use lib.Dec.{leb}
use Rattle.wire.specs.Range.{lies_in, place_in}

module _ (start count base length : ℕ) where
  -- what a judgement says
  pub range-known : (place : ℕ) → place_in start count base length ≡ Some place
      → (base ≤ start) × (start + count ≤ base + length) × (place ≡ start - base)
  unfolding lies_in place_in
  range-known place e = (grind (arith, nat_tests), grind (arith, nat_tests), grind (arith, nat_tests))

  -- and what it says of the range alone
  pub lies-inside : (place : ℕ) → place_in start count base length ≡ Some place → lies_in start count base length ≡ true
  unfolding lies_in place_in
  lies-inside place e = grind (arith, nat_tests)

  pub lies-outside : place_in start count base length ≡ None → lies_in start count base length ≡ false
  unfolding lies_in place_in
  lies-outside e = grind (arith, nat_tests)

-- a memory's first byte lies in it
pub lies-first : (base size : ℕ) → 0 < size → lies_in base 1 base size ≡ true
unfolding lies_in
lies-first base size h = grind (arith, nat_tests)

-- a range in a memory that begins at 0
pub lies-fits : (start count length : ℕ) → lies_in start count 0 length ≡ true → start + count ≤ length
unfolding lies_in
lies-fits start count length e = grind (arith, nat_tests)

-- a refusal in a memory that begins at 0
pub range-over : (start count length : ℕ) → place_in start count 0 length ≡ None → leb (start + count) length ≡ false
unfolding lies_in place_in
range-over start count length e = grind (arith, nat_tests)
