-- A header that was made, read again.
-- Assumes nothing.
use Prim.Native.Nat.{ℕ, ◌+◌, ◌^◌, ◌<◌, ◌≤◌}
use mathlib.Core.Path.{◌≡◌, refl, ap, ◌∙◌}
use mathlib.Core.List.{List, ◌++◌, append_assoc}
use mathlib.Core.Bool.{true}
use native.Mathlib.Omega.{arith}
use lib.Dec.{eqb, ltb}
use lib.ListN.{length, drop, get_or, length-append, replicate}
use lib.Seq.{get_or-append_seam, get_or-append-add, drop-append-add, take_at, take-append_seam}
use borrow.Author.Tests.{le-leb, eq-eqb, eqb-false, ltb-false}
use borrow.Table.Steps.{cases}
use Rattle.numbers.specs.Number.{bytes_of, number_at}
use Rattle.wire.specs.Range.{lies_in}
use Rattle.numbers.proofs.Numbers.{bytes-number}
use Rattle.crc.specs.Rule.{rule32}
use Rattle.crc.specs.Crc.{crc_of}
use Rattle.version.specs.Text.{field_length, well_formed}
use Rattle.version.specs.Rank.{malformed_text}
use Rattle.image.specs.Header.{is_marked, flag_at, id_at, size_at, crc_at, version_at, encrypted_at, header_length}
use Rattle.image.specs.Rule.{valid_flag, largest_size, first_broken}
use Rattle.image.specs.Valid.{is_valid}
use Rattle.slot.specs.Product.{product_inside, product_marked}
use Rattle.headers.specs.ProductHeader.{product_header_of}
use Rattle.headers.specs.ImageHeader.{empty_code, long_code, header_bytes, image_header_of}
use Rattle.headers.specs.Made.{MadeImage, MadeProduct}
use Rattle.headers.proofs.Fields.{field-length}
use Rattle.headers.proofs.Checksums.{crc-lt}

pub made-product : MadeProduct
unfolding product_inside product_marked lies_in number_at
made-product first second front back f s =
    let bytes = (product_header_of first second).bytes in
    let inside : length front + 12 ≤ 0 + length (front ++ (bytes ++ back)) = simp length-append (omega arith) in (
      rw (le-leb 0 (length front) (omega arith), le-leb _ _ inside),
      simp (get_or-append_seam, get_or-append-add),
      simp drop-append-add (bytes-number 4 first f),
      simp drop-append-add (bytes-number 4 second s),
    )

-- what an image header in a memory says; `rest` is what follows it
record Says (memory : List ℕ) (offset id size crc : ℕ) (version rest : List ℕ) : Type 0 where
  mark : is_marked memory offset 0x51 ≡ true
  flag : flag_at memory offset ≡ valid_flag
  its-id : id_at memory offset ≡ id
  its-size : size_at memory offset ≡ size
  its-crc : crc_at memory offset ≡ crc
  its-version : version_at memory offset ≡ version
  encrypted : encrypted_at memory offset ≡ 0
  code : drop (offset + header_length) memory ≡ rest

says : (front rest version : List ℕ) (id size crc time : ℕ) → length version ≡ field_length → size < 2 ^ 32 → crc < 2 ^ 32 →
    Says (front ++ (header_bytes id size crc version time ++ rest)) (length front) id size crc version rest
unfolding number_at
says front rest version id size crc time sixteen s c =
    let behind = bytes_of 4 time ++ (replicate 32 0 ++ rest) in
    let at-20 : 20 ≡ length version + 4 = omega (arith, sixteen) in
    let at-52 : 52 ≡ length version + 36 = omega (arith, sixteen) in
    record {
      mark = simp (get_or-append_seam, get_or-append-add);
      flag = simp get_or-append-add;
      its-id = simp get_or-append-add;
      its-size = simp drop-append-add (bytes-number 4 size s);
      its-crc = simp drop-append-add (bytes-number 4 crc c);
      its-version = simp (drop-append-add, append_assoc) (take_at version behind field_length sixteen);
      encrypted = simp (get_or-append-add, append_assoc) (ap (λ (k : ℕ). get_or (version ++ behind) k 0) at-20 ∙ get_or-append-add version behind 4 0);
      code = simp (drop-append-add, append_assoc) (ap (λ (k : ℕ). drop k (version ++ behind)) at-52 ∙ drop-append-add version behind 36);
    }

-- a header that isn't refused
record Accepted (code version : List ℕ) (id time : ℕ) : Type 0 where
  some : 1 ≤ length code
  fits : length code ≤ largest_size
  sixteen : length version ≡ field_length
  is_made : (image_header_of code id version time).bytes ≡ header_bytes id (length code) (crc_of rule32 code) version time

-- the number 0 says so: each refusal has another
accepted : (code version : List ℕ) (id time : ℕ) → (image_header_of code id version time).number ≡ 0 → Accepted code version id time
unfolding image_header_of
accepted code version id time e =
    cases (eqb (length code) 0)
    (λ p. absurd (let z : empty_code ≡ 0 = simp p at e in omega arith))
    (λ p. cases (ltb largest_size (length code))
    (λ q. absurd (let z : long_code ≡ 0 = simp (p, q) at e in omega arith))
    (λ q. cases (well_formed version)
    (λ r. record {
      some = omega (arith, eqb-false (length code) 0 p);
      fits = ltb-false largest_size (length code) q;
      sixteen = field-length version r;
      is_made = simp (p, q, r);
    })
    (λ r. absurd (let z : malformed_text ≡ 0 = simp (p, q, r) at e in omega arith))))

pub made-image : MadeImage
unfolding is_valid first_broken
made-image code version front back id time small e =
    let a = accepted code version id time e in
    let size = length code in
    let crc = crc_of rule32 code in
    let header = header_bytes id size crc version time in
    let h = says front (code ++ back) version id size crc time a.sixteen (omega (arith, a.fits)) (crc-lt code small) in
    let within : length front + header_length + size ≤ length (front ++ (header ++ (code ++ back))) =
    simp length-append (omega (arith, a.sixteen)) in
    let headed : length front + header_length ≤ length (front ++ (header ++ (code ++ back))) = omega (arith, within) in
    rw a.is_made (
      simp (
        le-leb _ _ headed,
        h.mark,
        h.flag,
        h.its-size,
        h.its-crc,
        h.encrypted,
        h.code,
        take-append_seam code back,
        eq-eqb crc crc refl,
        le-leb _ _ a.some,
        le-leb _ _ a.fits,
        le-leb _ _ within,
      ),
      h.its-id,
      h.its-size,
      h.its-version,
      rw (h.its-size, h.code) (take-append_seam code back),
    )
