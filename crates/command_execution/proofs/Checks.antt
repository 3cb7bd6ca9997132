-- What it says of a command that none of its checks failed.
-- Assumes nothing.
use Rattle.std.specs.Prelude.{Option, Some, None}
use Prim.Native.Nat.{ℕ, ◌+◌, ◌-◌, ◌≤◌, ◌<◌}
use mathlib.Core.Path.{◌≡◌, refl}
use mathlib.Core.Bool.{Bool, true, false, cond, not}
use lib.Dec.{eqb, leb, ltb}
use native.Mathlib.Omega.{arith}
use borrow.Author.Tests.{ltb-false, leb-true, eqb-false, not-false}
use Rattle.wire.specs.Range.{lies_in}
use Rattle.wire.specs.Unit.{ram_base, ram_place, flash_place}
use Rattle.wire.proofs.Ranges.{lies-fits}
use Rattle.wire.proofs.Tests.{both_true}
use Rattle.command.specs.declared.check.Checks.{Checks}
use Rattle.command.specs.Check.{judged, bad_verify, empty_range, wrong_end, long_answer}

-- checks that all passed, in memories of these lengths
pub record Passed (ram flash work : ℕ) (c : Checks) : Type 0 where
  pub verify-known : c.verify ≤ 1
  pub some : 0 < c.count
  pub lies-in-ram : lies_in c.address.0 c.ram ram_base ram ≡ true
  pub from-base : ram_base ≤ c.address.0
  pub in-ram : c.address.0 - ram_base + c.ram ≤ ram
  pub in-flash : c.offset.0 + c.flash ≤ flash
  pub answer-fits : c.answer ≤ work

-- no reason was given: this test gave none, and those after it gave none
no-reason : (t : Bool) (reason rest : ℕ) → 0 < reason → cond t reason rest ≡ 0 → (t ≡ false) × (rest ≡ 0)
no-reason true reason rest h e = absurd (omega arith)
no-reason false reason rest h e = (refl, e)

-- a range that is not wholly in its memory gets a reason, whichever end is wrong
some-reason : (first : Option ℕ) → 0 < wrong_end first
some-reason (Some place) = omega arith
some-reason None = omega arith

pub allowed : (ram flash work : ℕ) (c : Checks) → judged ram flash work c ≡ 0 → Passed ram flash work c
unfolding judged lies_in
allowed ram flash work c e =
    let verify = no-reason (ltb 1 c.verify) bad_verify _ (omega arith) e in
    let count = no-reason (eqb c.count 0) empty_range _ (omega arith) verify.1 in
    let ram-first = ram_place c.address 1 ram in
    let flash-first = flash_place c.offset 1 flash in
    let ram-range = no-reason (not (lies_in c.address.0 c.ram ram_base ram)) (wrong_end ram-first) _ (some-reason ram-first) count.1 in
    let flash-range = no-reason (not (lies_in c.offset.0 c.flash 0 flash)) (wrong_end flash-first) _ (some-reason flash-first) ram-range.1 in
    let answer = no-reason (ltb work c.answer) long_answer _ (omega arith) flash-range.1 in
    let lies : lies_in c.address.0 c.ram ram_base ram ≡ true = not-false _ ram-range.0 in
    let ends = both_true (leb ram_base c.address.0) (leb (c.address.0 + c.ram) (ram_base + ram)) lies in
    let from : ram_base ≤ c.address.0 = leb-true ram_base c.address.0 ends.0 in
    record {
      verify-known = ltb-false 1 c.verify verify.0;
      some = omega (arith, eqb-false c.count 0 count.0);
      lies-in-ram = lies;
      from-base = from;
      in-ram = omega (arith, leb-true (c.address.0 + c.ram) (ram_base + ram) ends.1);
      in-flash = lies-fits c.offset.0 c.flash flash (not-false _ flash-range.0);
      answer-fits = ltb-false work c.answer answer.0;
    }
