-- What an accepted length says.
-- Assumes nothing.
use Rattle.std.proofs.lemmas.Bool.Decides.{nat_tests}
use Prim.Native.Nat.{ℕ, ◌≤◌, ◌%◌}
use mathlib.Core.Path.{◌≡◌}
use mathlib.Core.Bool.{true}
use native.Mathlib.Omega.{arith}
use Rattle.wire.specs.Length.{is_between, is_ram_length, is_work_length, is_flash_length, largest_ram, largest_flash, largest_work, smallest_work, sector_length}

pub ram-bounds : (n : ℕ) → is_ram_length n ≡ true → (1 ≤ n) × (n ≤ largest_ram)
unfolding is_between
ram-bounds n e = (grind (arith, nat_tests), grind (arith, nat_tests))

pub work-bounds : (n : ℕ) → is_work_length n ≡ true → (smallest_work ≤ n) × (n ≤ largest_work)
unfolding is_between
work-bounds n e = (grind (arith, nat_tests), grind (arith, nat_tests))

-- flash is whole sectors, and not too many
pub flash-bounds : (n : ℕ) → is_flash_length n ≡ true → (n % sector_length ≡ 0) × (n ≤ largest_flash)
unfolding is_flash_length
flash-bounds n e = (grind (arith, nat_tests), grind (arith, nat_tests))
