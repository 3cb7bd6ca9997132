-- `crc::Register::after_byte`: in each turn one bit more has left.
-- Assumes nothing.
use Rattle.std.proofs.Common.{◌≡◌, ◌≤◌}
use Rattle.crc.specs.Register.{after_bits}
use Rattle.crc.proofs.Register.after_byte.Given as goal

abbrev pub invariant-loop : goal.invariant-loop
invariant-loop g l =
    let t = g.Self.Register in
    (l.counter ≤ 8) × (t.number l.q ≡ after_bits t.rule l.counter (t.number l.initial.q))
