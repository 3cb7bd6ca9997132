-- The memories of a uartboot session (rules, 1.3), and the lengths that they may have.
-- Assumes nothing.
use Rattle.std.specs.Prelude.{ℕ, ◌≡◌, true, List, length}
use Rattle.wire.specs.Length.{is_ram_length, is_flash_length, is_work_length}

pub record Memories : Type 0 where
  pub ram : List ℕ
  pub flash : List ℕ
  pub work : List ℕ

abbrev pub memories : (ram flash work : List ℕ) → Memories
memories ram flash work = record { ram = ram; flash = flash; work = work }

-- lengths that no call refuses
pub record Fitting (ram flash work : ℕ) : Type 0 where
  pub ram_length : is_ram_length ram ≡ true
  pub flash_length : is_flash_length flash ≡ true
  pub work_length : is_work_length work ≡ true

-- memories of the same lengths
pub record SameLengths (a b : Memories) : Type 0 where
  pub same_ram : length a.ram ≡ length b.ram
  pub same_flash : length a.flash ≡ length b.flash
  pub same_work : length a.work ≡ length b.work
