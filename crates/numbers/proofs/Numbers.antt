-- Laws of little-endian numbers, over the width.
-- Assumes nothing.
use Rattle.std.specs.Int.{w32, byte_at, bytes_low_first, to_le_bytes, from_le_bytes}
use Rattle.std.proofs.lemmas.List.Edits.{sets, sets-eq}
use Prim.Native.Nat.{ℕ, zero, suc, ◌+◌, ◌-◌, ◌/◌, ◌^◌, ◌≤◌, ◌<◌}
use mathlib.Core.Path.{◌≡◌, refl, sym, ap, ◌∙◌}
use mathlib.Core.List.{List, [], ◌∷◌, append_assoc}
use native.Mathlib.Nat.{pow-suc, div-one, div-add-mod, div-div-eq-div-mul, div-lt_iff_lt-mul}
use native.Mathlib.Omega.{arith}
use lib.ListN.{length, take, drop, replicate, length-drop}
use lib.Seq.{length-take-le, drop-drop}
use borrow.Rule.Slice.PartMut.{put_mid}
use Rattle.numbers.specs.Number.{number_of, number_at, low_byte, bytes_of}

-- the bytes of a number make it again, at every width that it has room in
pub bytes-number : (width n : ℕ) → n < 256 ^ width → number_of (bytes_of width n) ≡ n
bytes-number zero n h = omega (arith, h)
bytes-number (suc width) n h =
    let less : n / 256 < 256 ^ width = (div-lt_iff_lt-mul {k = 256} {x = n} {y = 256 ^ width} (omega arith)).1 (rw (pow-suc 256 width) at h) in
    omega (arith, bytes-number width (n / 256) less, div-add-mod n 256)

-- the number that up to 4 bytes make at the front of a word whose other bytes are 0
word-number : (bytes : List ℕ) → length bytes ≤ 4 → from_le_bytes w32 (put_mid 0 (length bytes) (replicate 4 0) bytes) ≡ number_of bytes
word-number [] h = refl
word-number (a ∷ []) h = omega arith
word-number (a ∷ b ∷ []) h = omega arith
word-number (a ∷ b ∷ c ∷ []) h = omega arith
word-number (a ∷ b ∷ c ∷ d ∷ []) h = omega arith
word-number (a ∷ b ∷ c ∷ d ∷ e ∷ more) h = absurd (omega arith)

pub number-in : (bytes : List ℕ) (width : ℕ) → width ≤ 4 → length bytes ≡ width → from_le_bytes w32 (put_mid 0 width (replicate 4 0) bytes) ≡ number_of bytes
number-in bytes width h e = rw (← e) (word-number bytes (omega arith))

-- the bytes from a place on, read so
pub number_there : (bytes word : List ℕ) (place width : ℕ) → width ≤ 4 → place + width ≤ length bytes → word ≡ take (place + width - place) (drop place bytes)
    → from_le_bytes w32 (put_mid 0 width (replicate 4 0) word) ≡ number_at width bytes place
unfolding number_at
number_there bytes word place width h there e =
    let many : place + width - place ≡ width = omega arith in
    let fits : length (take width (drop place bytes)) ≡ width = length-take-le width (drop place bytes) (rw length-drop (omega (arith, there))) in
    let same : word ≡ take width (drop place bytes) = rw many at e in
    number-in word width h (rw same fits) ∙ ap number_of same

-- the lowest bytes of a number, from byte i on
byte-low : (i n : ℕ) → byte_at i n ≡ low_byte (n / 256 ^ i)
byte-low zero n = ap low_byte (sym (div-one n))
byte-low (suc i) n = refl

low-bytes : (i count width n : ℕ) → width ≤ count → take width (bytes_low_first i count n) ≡ bytes_of width (n / 256 ^ i)
low-bytes i count zero n h = refl
low-bytes i zero (suc width) n h = absurd (omega arith)
low-bytes i (suc count) (suc width) n h =
    let next : n / 256 ^ suc i ≡ n / 256 ^ i / 256 = ap (λ (k : ℕ). n / k) (pow-suc 256 i) ∙ sym (div-div-eq-div-mul n (256 ^ i) 256) in
    rw (byte-low i n, low-bytes (suc i) count width n (omega arith), next)

length-bytes : (width n : ℕ) → length (bytes_of width n) ≡ width
length-bytes zero n = refl
length-bytes (suc width) n = ap suc (length-bytes width (n / 256))

-- these bytes put in the place of others
pub put_bytes : (out : List ℕ) (place width number : ℕ) (bytes : List ℕ) → width ≤ 4 → place + width ≤ length out → bytes ≡ take width (to_le_bytes w32 number)
    → put_mid place (place + width - place) out bytes ≡ sets out place (bytes_of width number)
put_bytes out place width number bytes h room e =
    let low : take width (to_le_bytes w32 number) ≡ bytes_of width number = rw div-one at (low-bytes 0 4 width number h) in
    let many : place + width - place ≡ width = omega arith in
    let length_is = length-bytes width number in
    let fits : place + length (bytes_of width number) ≤ length out = rw length_is room in
    simp (sets-eq (bytes_of width number) out place fits, e, low, many, length_is, drop-drop, append_assoc)
