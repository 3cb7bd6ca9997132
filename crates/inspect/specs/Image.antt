-- What an image header says, and the first rule that the image breaks (rules, 9.3). The memory is a flash or a file, of any length.
-- Assumes nothing.
use Rattle.std.specs.Prelude.{ℕ, ◌+◌, List, cond}
use Rattle.image.specs.Header.{id_at, size_at, version_place, header_length}
use Rattle.image.specs.Rule.{rule_number, header_inside, first_broken}
use Rattle.inspect.specs.declared.image_header.ImageRead.{ImageRead}

-- a number, where the header lies in the memory, and else 0
abbrev pub shown : (memory : List ℕ) (offset n : ℕ) → ℕ
shown memory offset n = cond (header_inside memory offset) n 0

unfoldable pub read_image : (memory : List ℕ) (offset : ℕ) → ImageRead
read_image memory offset =
    record {
      rule = rule_number (first_broken memory offset);
      id = shown memory offset (id_at memory offset);
      size = shown memory offset (size_at memory offset);
      version_place = shown memory offset (offset + version_place);
      code_place = shown memory offset (offset + header_length);
    }
