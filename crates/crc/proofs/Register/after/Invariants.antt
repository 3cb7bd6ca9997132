-- `crc::Register::after`: in each turn one byte more is taken, and the bytes that are left make of the register there now what all of them
-- make of the first one.
-- Assumes nothing.
use Rattle.std.proofs.Common.{◌≡◌, ◌≤◌, length, drop}
use Rattle.crc.specs.Register.{after}
use Rattle.crc.proofs.Register.after.Given as goal

abbrev pub invariant-loop-byte : goal.invariant-loop-byte
invariant-loop-byte g l =
    let t = g.Self.Register in
    (l.byte-index ≤ length l.bytes)
    × (after t.rule (t.number l.q) (drop l.byte-index l.bytes) ≡ after t.rule (t.number l.fn.self) l.bytes)
