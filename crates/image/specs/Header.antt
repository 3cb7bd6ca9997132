-- The image header, 64 bytes, and the code after it (rules, 9.1). Numbers are little-endian. The time, at 28, and the reserved bytes from
-- 33 on are not read. Each field is that of an image at an offset of a memory. Bytes past the memory's end count as 0 in a number, and a
-- range of bytes ends with the memory.
-- Assumes nothing.
use Rattle.std.specs.Prelude.{ℕ, ◌+◌, List, Bool, ◌&&◌, eqb, get_or, take, drop}
use Rattle.numbers.specs.Number.{number_at}

-- a mark: 70, and a second byte that tells an image header, 51, from a product header, 52
abbrev pub is_marked : (memory : List ℕ) (offset second : ℕ) → Bool
is_marked memory offset second = eqb (get_or memory offset 0) 0x70 && eqb (get_or memory (offset + 1) 0) second

abbrev pub flag_at : (memory : List ℕ) (offset : ℕ) → ℕ
flag_at memory offset = get_or memory (offset + 2) 0

abbrev pub id_at : (memory : List ℕ) (offset : ℕ) → ℕ
id_at memory offset = get_or memory (offset + 3) 0

-- how many bytes of code there are
abbrev pub size_at : (memory : List ℕ) (offset : ℕ) → ℕ
size_at memory offset = number_at 4 memory (offset + 4)

-- the CRC that the code should have
abbrev pub crc_at : (memory : List ℕ) (offset : ℕ) → ℕ
crc_at memory offset = number_at 4 memory (offset + 8)

-- where the version's field begins in the header, and how many bytes it has
abbrev pub version_place : ℕ
version_place = 12

abbrev pub version_length : ℕ
version_length = 16

abbrev pub version_at : (memory : List ℕ) (offset : ℕ) → List ℕ
version_at memory offset = take version_length (drop (offset + version_place) memory)

abbrev pub encrypted_at : (memory : List ℕ) (offset : ℕ) → ℕ
encrypted_at memory offset = get_or memory (offset + 32) 0

abbrev pub header_length : ℕ
header_length = 64

abbrev pub code_at : (memory : List ℕ) (offset : ℕ) → List ℕ
code_at memory offset = take (size_at memory offset) (drop (offset + header_length) memory)
