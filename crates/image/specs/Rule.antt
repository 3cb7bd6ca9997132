-- The rules of a valid image, the numbers of these rules, and the first one that an image breaks (rules, 2.4 and 9.2).
-- Assumes nothing.
use Rattle.std.specs.Prelude.{ℕ, ◌+◌, List, Bool, Option, Some, None, cond, not, eqb, leb, length}
use Rattle.crc.specs.Rule.{rule32}
use Rattle.crc.specs.Crc.{crc_of}
use Rattle.image.specs.declared.rule.Rule.{Rule}
use Rattle.image.specs.declared.rule.Rule.TheVariants.{Header, Mark, Flag, Size, Reach, Encrypted, Crc}
use Rattle.image.specs.Header.{is_marked, flag_at, size_at, crc_at, encrypted_at, header_length, code_at}

-- the flag of a valid image
abbrev pub valid_flag : ℕ
valid_flag = 0xAA

abbrev pub largest_size : ℕ
largest_size = 131072

-- the number of a rule
abbrev pub own_number : Rule → ℕ
own_number Header = 1
own_number Mark = 2
own_number Flag = 3
own_number Size = 4
own_number Reach = 5
own_number Encrypted = 6
own_number Crc = 7

-- the number of a broken rule; 0 where none is broken
abbrev pub rule_number : Option Rule → ℕ
rule_number None = 0
rule_number (Some rule) = own_number rule

-- the header's 64 bytes lie wholly in the memory
abbrev pub header_inside : (memory : List ℕ) (offset : ℕ) → Bool
header_inside memory offset = leb (offset + header_length) (length memory)

-- header wholly in the memory, mark 70 51, flag AA, size 1 to 131,072, header and code wholly in the memory, not encrypted, CRC-32 of the
-- code equal
unfoldable pub first_broken : (memory : List ℕ) (offset : ℕ) → Option Rule
first_broken memory offset =
    cond (not (header_inside memory offset)) (Some Header)
    (cond (not (is_marked memory offset 0x51)) (Some Mark)
    (cond (not (eqb (flag_at memory offset) valid_flag)) (Some Flag)
    (cond (not (leb 1 (size_at memory offset))) (Some Size)
    (cond (not (leb (size_at memory offset) largest_size)) (Some Size)
    (cond (not (leb (offset + header_length + size_at memory offset) (length memory))) (Some Reach)
    (cond (not (eqb (encrypted_at memory offset) 0)) (Some Encrypted)
    (cond (not (eqb (crc_of rule32 (code_at memory offset)) (crc_at memory offset))) (Some Crc)
    None)))))))
