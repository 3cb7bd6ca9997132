-- The histories are computed.
-- Assumes nothing.
use Prim.Native.Nat.{◌+◌}
use mathlib.Core.Path.{refl}
use mathlib.Core.List.{[]}
use lib.ListN.{length}
use Rattle.numbers.specs.Number.{number_at}
use Rattle.wire.specs.Range.{lies_in}
use Rattle.machine.specs.Outcome.{halt}
use Rattle.machine.specs.History.{here, trace}
use Rattle.machine.proofs.Paths.{traced}
use Rattle.command.specs.Check.{judged}
use Rattle.opcodes.specs.Opcode.{opcode_of}
use Rattle.uartboot_flow.specs.Fresh.{fresh}
use Rattle.uartboot_flow.specs.Device.{device}
use Rattle.sessions.specs.Naked.{history_of, NakSpeaks}

pub nak-speaks : NakSpeaks
unfolding history_of trace opcode_of judged number_at lies_in
nak-speaks =
    record {
      leads = λ m stream. traced device (fresh m) stream (length stream + 16) [] (halt (fresh m)) here;
      header_refused = refl;
      payload_refused = refl;
      header_accepted = refl;
    }
