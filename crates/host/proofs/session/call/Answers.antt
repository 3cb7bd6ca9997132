-- `host::session::call`: the refusals in order, and what the loop gives written out.
-- Assumes nothing.
use Rattle.std.proofs.lemmas.Result.{err_from_is_err_and}
use Rattle.host.proofs.Calls.{bad-command, bad-record, ready, went}
use mathlib.Core.Path.{refl, sym, ◌∙◌}
use Rattle.host.proofs.session.call.Goals as goal

pub returns-in_err-x : goal.returns-in_err-x
returns-in_err-x c =
    let left = err_from_is_err_and c.from_residual.result c.from_residual.ensures.1 in
    rw (left.1, left.2) (bad-command _ _ _ _ _ (sym c.judge.ensures ∙ c.in_err-x.was))

pub act-end-requires : goal.act-end-requires
act-end-requires c =
    let start = ready _ _ _ _ (sym c.judge.ensures ∙ c.in_ok-x.was) _ _ (sym c.decode.ensures ∙ c.in-Some.is) in
    record { payload_value = start.0; ready = start.1 }

pub returns-in_default : goal.returns-in_default
returns-in_default c = bad-record _ _ _ _ _ (sym c.judge.ensures ∙ c.in_ok-x.was) (sym c.decode.ensures ∙ c.in_default.is)

pub returns : goal.returns
returns c =
    rw (c.accepted.ensures, c.encode.ensures) (went _ _ _ _ (sym c.judge.ensures ∙ c.in_ok-x.was) _ _ _ _ (sym c.decode.ensures ∙ c.in-Some.is) _ _ _ c.act-end.ensures)
