-- `visit::answer`: by what is left.
-- Assumes nothing.
use Rattle.std.proofs.Common.{◌<◌, ◌≤◌, length, arith, sym}
use Rattle.std.proofs.lemmas.Bool.Decides.{nat_tests}
use Rattle.std.proofs.lemmas.Result.{IfOk-at_ok}
use Rattle.visit.specs.Held.{IsHeld}
use Rattle.visit.proofs.Holding.{answer-equal, answer-more}
use Rattle.visit.proofs.answer.Goals as goal

pub returns-in-Ok : goal.returns-in-Ok
returns-in-Ok c = λ h.
    let none : length c.in-Ok.held.run.bytes.now ≤ 0 = grind (arith, nat_tests) in
    rw c.in-Ok.is (sym (answer-equal c.in-Ok.held (IfOk-at_ok IsHeld c.in-Ok.is h) none))

pub returns-in-Ok-2 : goal.returns-in-Ok-2
returns-in-Ok-2 c = λ h.
    let some : 0 < length c.in-Ok-2.held.run.bytes.now = grind (arith, nat_tests) in
    rw c.in-Ok-2.is (sym (answer-more c.in-Ok-2.held (IfOk-at_ok IsHeld c.in-Ok-2.is h) some))
