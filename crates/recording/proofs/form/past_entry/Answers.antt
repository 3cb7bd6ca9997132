-- `recording::form::past_entry`: the kind, and then whether all of it is there.
-- Assumes nothing.
use Rattle.std.proofs.Common.{get_or, sym, ◌∙◌}
use Rattle.std.proofs.lemmas.Result.{err_from_is_err_and}
use Rattle.recording.proofs.Faults.{some-kind, no-kind, fault-kind, fault-short, fault-past}
use Rattle.recording.proofs.form.past_entry.Goals as goal

pub returns-in_err-try_from-clause-fault : goal.returns-in_err-try_from-clause-fault
returns-in_err-try_from-clause-fault c =
    let p = err_from_is_err_and c.from_residual.result c.from_residual.ensures.1 in
    let none = no-kind (get_or c.args.bytes.now 0 0) c.in_err-try_from.field-0.0 c.in_err-try_from.ensures in
    rw (p.1, p.2) (none.1 ∙ sym (fault-kind c.args.bytes.now none.0))

pub returns-then-bytes-lt-ENTRY_HEAD-clause-fault : goal.returns-then-bytes-lt-ENTRY_HEAD-clause-fault
returns-then-bytes-lt-ENTRY_HEAD-clause-fault c =
    sym (fault-short c.args.bytes.now (some-kind (get_or c.args.bytes.now 0 0) c.in_ok-try_from.field-0 c.in_ok-try_from.ensures) c.if-bytes-lt-ENTRY_HEAD.true)

pub returns-clause-fault : goal.returns-clause-fault
returns-clause-fault c =
    let known = some-kind (get_or c.args.bytes.now 0 0) c.in_ok-try_from.field-0 c.in_ok-try_from.ensures in
    rw c.ok_or.ensures.value (fault-past c.args.bytes.now known c.if-bytes-lt-ENTRY_HEAD.false c.size_in.result c.size_in.ensures c.get.result c.get.ensures.lookup)
