-- `uartboot::session::call`: the refusals in order, and what the loop gives written out.
-- Assumes nothing.
use mathlib.Core.Path.{refl, sym, ◌∙◌}
use Rattle.uartboot_record.proofs.Records.{decoded-sound}
use Rattle.uartboot.proofs.Calls.{fitting, bad-length, bad-record, good}
use Rattle.std.proofs.lemmas.Result.{err_from_is_err_and}
use Rattle.uartboot.proofs.session.call.Goals as goal

pub returns-in_err-check_lengths : goal.returns-in_err-check_lengths
returns-in_err-check_lengths c =
    let left = err_from_is_err_and c.from_residual.result c.from_residual.ensures.1 in
    rw (left.1, left.2) (bad-length _ _ _ _ _ c.in_err-check_lengths.ensures)

pub act-end-requires : goal.act-end-requires
act-end-requires c =
    record {
      fitting = fitting _ _ _ (sym c.in_ok-check_lengths.ensures);
      step_sound = decoded-sound _ _ c.args.session _ (sym c.decode.ensures ∙ c.in-Some.is);
    }

pub returns-in_default : goal.returns-in_default
returns-in_default c = bad-record _ _ _ _ (sym c.in_ok-check_lengths.ensures) (sym c.decode.ensures ∙ c.in_default.is)

pub returns : goal.returns
returns c =
    rw (c.accepted.ensures, c.encode.ensures) (good _ _ _ _ (sym c.in_ok-check_lengths.ensures) _ (sym c.decode.ensures ∙ c.in-Some.is) _ _ _ c.act-end.ensures)
