-- `version::decimal::decimal_at`: in each turn one digit more is read.
-- Assumes nothing.
use Rattle.std.proofs.Common.{◌≡◌, ◌+◌}
use Rattle.version.proofs.Digits.{Reading}
use Rattle.version.proofs.decimal.decimal_at.Given as goal

abbrev pub invariant-loop-byte : goal.invariant-loop-byte
invariant-loop-byte l = record {
  place : l.end ≡ l.start + l.byte-index;
  read : Reading l.field l.start l.end l.value;
}
