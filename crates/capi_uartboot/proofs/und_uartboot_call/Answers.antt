-- `capi_uartboot::und_uartboot_call`: what C gets is the session's result.
-- Assumes nothing.
use Rattle.std.proofs.Common.{rules}
use Rattle.memory.specs.Memories.{memories}
use Rattle.uartboot.specs.Session.{uartboot}
use Rattle.machine.specs.Told.{refusal_number}
use Rattle.called.proofs.Boundary.{handed-back, reported}
use Rattle.capi_uartboot.proofs.und_uartboot_call.Goals as goal

pub returns : goal.returns
returns c =
    handed-back uartboot c.args.words.now (memories c.args.ram.now c.args.flash.now c.args.work.now) c.args.input.now c.args.reply.now
    _ c.from-session.ensures _ _ _
    (reported refusal_number _ _ _ _ _ _ _ c.map_err.ensures.cases (λ why n p. search rules) c.of-report.ensures c.call-outcome.ensures)
    _ _ (c.hand_back.ensures.value, c.hand_back.ensures.words_after)
