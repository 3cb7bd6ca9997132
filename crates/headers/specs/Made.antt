-- What a header that was made says where it lies in a memory (rules, 9.4 and 10.4). Any bytes may be before and after it.
-- Assumes nothing.
use Rattle.std.specs.Prelude.{ℕ, ◌≡◌, List, ◌++◌, true, length}
use Rattle.wire.specs.Bytes.{Bytes, Word}
use Rattle.image.specs.Header.{id_at, size_at, version_at, code_at}
use Rattle.image.specs.Valid.{is_valid}
use Rattle.slot.specs.Product.{product_inside, product_marked, first_offset, second_offset}
use Rattle.headers.specs.ProductHeader.{product_header_of}
use Rattle.headers.specs.ImageHeader.{image_header_of}

-- an image header that isn't refused, with its code after it: a valid image of that id, size, version and code
abbrev pub MadeImage : Type 0
MadeImage =
    (code version front back : List ℕ) (id time : ℕ) → Bytes code → (image_header_of code id version time).number ≡ 0 →
    let memory = front ++ ((image_header_of code id version time).bytes ++ (code ++ back)) in
    let offset = length front in
    (is_valid memory offset ≡ true)
    × (id_at memory offset ≡ id)
    × (size_at memory offset ≡ length code)
    × (version_at memory offset ≡ version)
    × (code_at memory offset ≡ code)

-- a product header: it is marked, and names the offsets
abbrev pub MadeProduct : Type 0
MadeProduct =
    (first second : ℕ) (front back : List ℕ) → Word first → Word second →
    let flash = front ++ ((product_header_of first second).bytes ++ back) in
    let offset = length front in
    (product_inside flash offset ≡ true)
    × (product_marked flash offset ≡ true)
    × (first_offset flash offset ≡ first)
    × (second_offset flash offset ≡ second)
