-- `recording::form::check`: what is wrong from here on is what is wrong with the file.
-- Assumes nothing.
use Rattle.std.proofs.Common.{◌<◌, ◌≤◌, length, sym, ap, ◌∙◌, arith}
use Rattle.std.proofs.lemmas.Result.{err_from_is_err_and}
use Rattle.std.proofs.lemmas.Bool.Decides.{nat_tests}
use Rattle.recording.specs.Recording.{entries_of, fault_of}
use Rattle.recording.proofs.Faults.{fault-some}
use Rattle.recording.proofs.Entries.{no-entries, fault-here, fault-later}
use Rattle.recording.proofs.Runs.{empty}
use Rattle.recording.proofs.Files.{head-bad, head-good}
use Rattle.recording.proofs.form.check.Goals as goal

pub returns-in_err-rest : goal.returns-in_err-rest
returns-in_err-rest c =
    let p = err_from_is_err_and c.from_residual.result c.from_residual.ensures.1 in
    let is = c.in_err-rest.ensures.fault in
    rw (p.1, p.2) (is ∙ sym (head-bad c.args.file.now (λ z. fault-some _ (is ∙ z))))

pub loop-rest-init : goal.loop-rest-init
loop-rest-init c = rw c.in_ok-rest.ensures.past (ap fault_of (head-good c.args.file.now (sym c.in_ok-rest.ensures.fault)))

pub returns-in_err-rest-2 : goal.returns-in_err-rest-2
returns-in_err-rest-2 c =
    let p = err_from_is_err_and c.from_residual-in_err-rest-2.result c.from_residual-in_err-rest-2.ensures.1 in
    let is = c.in_err-rest-2.ensures.fault in
    let some : 0 < length c.loop-rest.rest.now = grind (arith, nat_tests) in
    rw (p.1, p.2) (is ∙ sym (c.loop-rest.invariant ∙ fault-here c.loop-rest.rest.now some (λ z. fault-some _ (is ∙ z))))

pub loop-rest-preserved : goal.loop-rest-preserved
loop-rest-preserved c =
    let some : 0 < length c.loop-rest.rest.now = grind (arith, nat_tests) in
    rw c.in_ok-rest-2.ensures.past (c.loop-rest.invariant ∙ fault-later c.loop-rest.rest.now some (sym c.in_ok-rest-2.ensures.fault))

pub returns : goal.returns
returns c =
    let none : length c.loop-rest.rest.now ≤ 0 = grind (arith, nat_tests) in
    sym (c.loop-rest.invariant ∙ ap (λ bytes. fault_of (entries_of bytes)) (empty c.loop-rest.rest.now none) ∙ ap fault_of no-entries)
