-- A number of two bytes is read back from them, and a CRC-16 is one.
-- Assumes nothing.
use Prim.Native.Nat.{ℕ, ◌*◌, ◌/◌, ◌%◌, ◌^◌, ◌<◌}
use native.Mathlib.Omega.{arith}
use native.Mathlib.Nat.{mod-lt}
use mathlib.Core.Path.{◌≡◌, refl}
use mathlib.Core.Bool.{true}
use mathlib.Core.List.{List, [], ◌∷◌}
use lib.Dec.{eqb}
use lib.Bits.{xor_lt}
use borrow.Author.Tests.{eq-eqb}
use Rattle.numbers.specs.Number.{paired, low_byte, high_byte}
use Rattle.numbers.proofs.Numbers.{bytes-number}
use Rattle.crc.specs.Rule.{rule16}
use Rattle.crc.specs.Register.{leaving, moved, after_bit, after_bits, after_byte, after}
use Rattle.crc.specs.Crc.{crc_of}

pub paired-back : (n : ℕ) → n < 65536 → paired (low_byte n) (high_byte n) ≡ n
paired-back n h = omega (arith, bytes-number 2 n h)

pub same-eqb : (n : ℕ) → eqb n n ≡ true
same-eqb n = eq-eqb n n refl

-- whatever the register was, a bit that leaves makes it one of 16 bits
bit-fits : (r : ℕ) → after_bit rule16 r < 2 ^ 16
unfolding after_bit leaving moved
bit-fits r =
    let bit : r / 2 ^ 15 % 2 < 2 = mod-lt (r / 2 ^ 15) (omega arith) in
    xor_lt 16 (r * 2 % 2 ^ 16) (r / 2 ^ 15 % 2 * 0x1021) (mod-lt (r * 2) (omega arith)) (omega (arith, bit))

byte_fits : (r b : ℕ) → after_byte rule16 r b < 2 ^ 16
unfolding after_byte after_bits
byte_fits r b = bit-fits _

register-fits : (r : ℕ) (bytes : List ℕ) → r < 2 ^ 16 → after rule16 r bytes < 2 ^ 16
unfolding after
register-fits r [] h = h
register-fits r (b ∷ bs) h = register-fits (after_byte rule16 r b) bs (byte_fits r b)

pub crc-fits : (bytes : List ℕ) → crc_of rule16 bytes < 65536
unfolding crc_of
crc-fits bytes = xor_lt 16 (after rule16 0xFFFF bytes) 0 (register-fits 0xFFFF bytes (omega arith)) (omega arith)
