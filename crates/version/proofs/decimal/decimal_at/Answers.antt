-- `version::decimal::decimal_at`: in each turn one digit more is read.
-- Assumes nothing.
use Rattle.std.proofs.Common.{sym, ◌∙◌, arith}
use Rattle.version.proofs.Digits.{reading-more}
use Rattle.version.proofs.decimal.decimal_at.Goals as goal

pub loop-byte-preserved : goal.loop-byte-preserved
loop-byte-preserved c = record {
  place = omega arith;
  read =
      let l = c.loop-byte in
      let is = sym c.is_ascii_digit.ensures.value ∙ c.if-not-is_ascii_digit.false in
      rw c.from.ensures (reading-more _ _ _ _ l.invariant.read l.byte-index l.invariant.place c.loop-byte-test.true is c.else-start-end.either (omega arith));
}
