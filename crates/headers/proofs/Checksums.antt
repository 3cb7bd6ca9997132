-- A CRC-32 of bytes has 32 bits.
-- Assumes nothing.
use Prim.Native.Nat.{ℕ, zero, suc, ◌*◌, ◌/◌, ◌%◌, ◌^◌, ◌<◌}
use mathlib.Core.List.{List, [], ◌∷◌}
use native.Mathlib.Nat.{mod-lt}
use native.Mathlib.Omega.{arith}
use lib.Bits.{bit_xor, xor_lt}
use Rattle.crc.specs.Rule.{rule32}
use Rattle.crc.specs.Register.{leaving, moved, placed, after_bit, after_bits, after_byte, after}
use Rattle.crc.specs.Crc.{crc_of}
use Rattle.wire.specs.Bytes.{Bytes}

bit-lt : (r : ℕ) → r < 2 ^ 32 → after_bit rule32 r < 2 ^ 32
unfolding after_bit moved leaving
bit-lt r h =
    let half : r / 2 < 2 ^ 32 = omega arith in
    let bit : r % 2 < 2 = mod-lt r (omega arith) in
    let taps : r % 2 * 0xEDB8_8320 < 2 ^ 32 = omega arith in
    xor_lt 32 (r / 2) (r % 2 * 0xEDB8_8320) half taps

bits-lt : (n r : ℕ) → r < 2 ^ 32 → after_bits rule32 n r < 2 ^ 32
unfolding after_bits
bits-lt zero r h = h
bits-lt (suc n) r h = bit-lt (after_bits rule32 n r) (bits-lt n r h)

after-lt : (r : ℕ) (bytes : List ℕ) → Bytes bytes → r < 2 ^ 32 → after rule32 r bytes < 2 ^ 32
unfolding after after_byte placed
after-lt r [] small h = h
after-lt r (b ∷ bytes) small h =
    let byte : b < 2 ^ 32 = omega (arith, small.0) in
    after-lt (after_byte rule32 r b) bytes small.1 (bits-lt 8 (bit_xor r b) (xor_lt 32 r b h byte))

pub crc-lt : (bytes : List ℕ) → Bytes bytes → crc_of rule32 bytes < 2 ^ 32
unfolding crc_of
crc-lt bytes small = xor_lt 32 _ 0xFFFF_FFFF (after-lt 0xFFFF_FFFF bytes small (omega arith)) (omega arith)
