-- Code runs exactly when the host has acknowledged a checksum, the ROM's XOR or the CRC of a Run's payload (rules, 3.7). The host
-- acknowledges a checksum if the byte that the flow takes for it is 06.
-- Assumes nothing.
use Rattle.std.specs.Prelude.{ℕ, ◌≡◌, Bool, false, ◌&&◌, ◌||◌, List, [], ◌∷◌, eqb}
use Rattle.wire.specs.Line.{ack}
use Rattle.machine.specs.Machine.{Machine, is_running}
use Rattle.machine.specs.History.{Event}

-- the byte in view, which an action of a line takes, is this one
abbrev pub took_byte : (byte : ℕ) (view : List ℕ) → Bool
took_byte byte [] = false
took_byte byte (taken ∷ view) = eqb taken byte

module _ {S : Type 0} (awaits : S → Bool) where
  -- in a state that awaits the byte for a checksum, 06 was taken
  abbrev pub acknowledged : List (Event ℕ S) → Bool
  acknowledged [] = false
  acknowledged (e ∷ events) = (awaits e.state && took_byte ack e.view) || acknowledged events

  abbrev pub RunsExactly : Machine ℕ S → List (Event ℕ S) → S → Type 0
  RunsExactly m events s = is_running (m.need s) ≡ acknowledged events
