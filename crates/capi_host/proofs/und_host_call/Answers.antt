-- `capi_host::und_host_call`: what C gets is the host's result.
-- Assumes nothing.
use Rattle.std.proofs.Common.{rules}
use Rattle.host.specs.Refusal.{refusal_number}
use Rattle.called.proofs.Boundary.{handed-back, reported}
use Rattle.host.specs.Session.{host_session}
use Rattle.host_command.specs.Exchange.{lent}
use Rattle.capi_host.proofs.und_host_call.Goals as goal

pub returns : goal.returns
returns c =
    handed-back host_session c.args.words.now (lent c.args.opcode c.args.payload.now c.args.answer.now) c.args.input.now c.args.output.now
    _ c.from-session.ensures _ _ _
    (reported refusal_number _ _ _ _ _ _ _ c.map_err.ensures.cases (λ why n p. search rules) c.of-report.ensures c.call-outcome.ensures)
    _ _ (c.hand_back.ensures.value, c.hand_back.ensures.words_after)
