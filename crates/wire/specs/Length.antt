-- The lengths that the memories may have (rules, 1.1 to 1.3), and the numbers given for other lengths.
-- Assumes nothing.
use Rattle.std.specs.Prelude.{ℕ, ◌%◌, Bool, ◌&&◌, eqb, leb}

-- from `least` to `most`
unfoldable pub is_between : (least most size : ℕ) → Bool
is_between least most size = leb least size && leb size most

abbrev pub largest_ram : ℕ
largest_ram = 131072

-- 1 to 131,072 bytes
abbrev pub is_ram_length : ℕ → Bool
is_ram_length size = is_between 1 largest_ram size

-- the number given for RAM of any other length
abbrev pub bad_ram : ℕ
bad_ram = 2

-- how many bytes a sector of flash has
abbrev pub sector_length : ℕ
sector_length = 4096

abbrev pub largest_flash : ℕ
largest_flash = 4194304

-- a non-zero multiple of 4,096, at most 4,194,304
unfoldable pub is_flash_length : ℕ → Bool
is_flash_length size = leb 1 size && (eqb (size % sector_length) 0 && leb size largest_flash)

-- the number given for flash of any other length
abbrev pub bad_flash : ℕ
bad_flash = 3

abbrev pub smallest_work : ℕ
smallest_work = 64

abbrev pub largest_work : ℕ
largest_work = 65535

-- 64 to 65,535 bytes
abbrev pub is_work_length : ℕ → Bool
is_work_length size = is_between smallest_work largest_work size

-- the number given for a work buffer of any other length
abbrev pub bad_work : ℕ
bad_work = 1
