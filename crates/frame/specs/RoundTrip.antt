-- The round trip (rules, 5.2), given RAM large enough and a receiver of the same kind.
-- Assumes nothing.
use Rattle.std.specs.Prelude.{ℕ, ◌≤◌, ◌≡◌, List, [], ◌∷◌, length, take}
use Rattle.memory.specs.Store.{laid}
use Rattle.machine.specs.Uncut.{uncut}
use Rattle.rom_flow.specs.declared.kind.Kind.{Kind}
use Rattle.rom_flow.specs.declared.step.Step.TheVariants.{Running}
use Rattle.wire.specs.Line.{stx, ack}
use Rattle.wire.specs.Unit.{first_address}
use Rattle.rom_flow.specs.Flow.{xor_of}
use Rattle.rom_flow.specs.Receiver.{receiver}
use Rattle.rom_flow.specs.Fresh.{fresh}
use Rattle.frame.specs.Frame.{framed_of}

-- a frame that is written, fed uncut to a fresh receiver of its kind: the code lies at the RAM's front, the rest of the RAM is as it
-- was, the replies are 02, 06 and the XOR, and the code runs
abbrev pub RoundTrip : Type 0
RoundTrip =
    (kind : Kind) (code out ram : List ℕ) → (framed_of kind code out).framed.number ≡ 0 → length code ≤ length ram →
    let w = framed_of kind code out in
    uncut receiver (fresh kind ram) (take w.framed.length w.out)
    ≡ record {
      replies = stx ∷ ack ∷ xor_of code ∷ [];
      taken = w.framed.length;
      final = record { kind = kind; step = Running first_address; reason = 0; ram = laid code ram };
    }
