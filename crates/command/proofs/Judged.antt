-- The reason against a command, by the first test that fails.
-- Assumes nothing.
use Rattle.std.specs.Prelude.{Some, None}
use Prim.Native.Nat.{ℕ, ◌<◌, ◌≤◌}
use mathlib.Core.Path.{◌≡◌}
use borrow.Author.Tests.{lt-ltb, le-ltb, eq-eqb, ne_eqb}
use Rattle.wire.specs.Unit.{ram_place, flash_place}
use Rattle.wire.proofs.Ranges.{lies-inside, lies-outside}
use Rattle.command.specs.declared.check.Checks.{Checks}
use Rattle.command.specs.Check.{bad_verify, empty_range, long_answer, wrong_end, judged}

module _ (ram flash work : ℕ) (c : Checks) where
  pub verify-wrong : 1 < c.verify → judged ram flash work c ≡ bad_verify
  unfolding judged
  verify-wrong v = simp (lt-ltb _ _ v)

  pub count-0 : c.verify ≤ 1 → c.count ≡ 0 → judged ram flash work c ≡ empty_range
  unfolding judged
  count-0 v n = simp (le-ltb _ _ v, eq-eqb _ _ n)

  pub ram-outside : c.verify ≤ 1 → (c.count ≡ 0 → ⊥) → ram_place c.address c.ram ram ≡ None → judged ram flash work c ≡ wrong_end (ram_place c.address 1 ram)
  unfolding judged
  ram-outside v n r = simp (le-ltb _ _ v, ne_eqb _ _ n, lies-outside _ _ _ _ r)

  pub flash-outside : (p : ℕ) → c.verify ≤ 1 → (c.count ≡ 0 → ⊥) → ram_place c.address c.ram ram ≡ Some p → flash_place c.offset c.flash flash ≡ None →
      judged ram flash work c ≡ wrong_end (flash_place c.offset 1 flash)
  unfolding judged
  flash-outside p v n r f = simp (le-ltb _ _ v, ne_eqb _ _ n, lies-inside _ _ _ _ p r, lies-outside _ _ _ _ f)

  pub answer-long : (p q : ℕ) → c.verify ≤ 1 → (c.count ≡ 0 → ⊥) → ram_place c.address c.ram ram ≡ Some p → flash_place c.offset c.flash flash ≡ Some q →
      work < c.answer → judged ram flash work c ≡ long_answer
  unfolding judged
  answer-long p q v n r f a = simp (le-ltb _ _ v, ne_eqb _ _ n, lies-inside _ _ _ _ p r, lies-inside _ _ _ _ q f, lt-ltb _ _ a)

  pub nothing-wrong : (p q : ℕ) → c.verify ≤ 1 → (c.count ≡ 0 → ⊥) → ram_place c.address c.ram ram ≡ Some p → flash_place c.offset c.flash flash ≡ Some q →
      c.answer ≤ work → judged ram flash work c ≡ 0
  unfolding judged
  nothing-wrong p q v n r f a = simp (le-ltb _ _ v, ne_eqb _ _ n, lies-inside _ _ _ _ p r, lies-inside _ _ _ _ q f, le-ltb _ _ a)

pub ruleset judgements = (verify-wrong, count-0, ram-outside, flash-outside, answer-long, nothing-wrong)
