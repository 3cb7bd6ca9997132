-- The product header that is made (rules, 10.4): 70 52, a version of 2 bytes, two image offsets of 4. The version is not tested; it is 0.
-- Assumes nothing.
use Rattle.std.specs.Prelude.{ℕ, ◌∷◌, ◌++◌}
use Rattle.numbers.specs.Number.{bytes_of}
use Rattle.headers.specs.declared.ProductHeader.{ProductHeader}

abbrev pub product_header_of : (first second : ℕ) → ProductHeader
product_header_of first second = record { bytes = 0x70 ∷ 0x52 ∷ bytes_of 2 0 ++ bytes_of 4 first ++ bytes_of 4 second }
