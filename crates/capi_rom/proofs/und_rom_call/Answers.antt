-- `capi_rom::und_rom_call`: what C gets is the session's result.
-- Assumes nothing.
use Rattle.std.proofs.Common.{rules}
use Rattle.rom.specs.Session.{rom}
use Rattle.machine.specs.Told.{refusal_number}
use Rattle.called.proofs.Boundary.{handed-back, reported}
use Rattle.capi_rom.proofs.und_rom_call.Goals as goal

pub returns : goal.returns
returns c =
    handed-back rom c.args.words.now c.args.ram.now c.args.input.now c.args.reply.now
    _ c.from-session.ensures _ _ _
    (reported refusal_number _ _ _ _ _ _ _ c.map_err.ensures.cases (λ why n p. search rules) c.of-report.ensures c.call-outcome.ensures)
    _ _ (c.hand_back.ensures.value, c.hand_back.ensures.words_after)
