-- The bytes of the serial line (rules, 3.1): 02 starts a flow, 01 a header, 06 accepts, 15 refuses.
-- Assumes nothing.
use Rattle.std.specs.Prelude.{ℕ}

abbrev pub stx : ℕ
stx = 0x02

abbrev pub soh : ℕ
soh = 0x01

abbrev pub ack : ℕ
ack = 0x06

abbrev pub nak : ℕ
nak = 0x15
