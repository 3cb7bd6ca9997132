-- The clause on NAKed commands is not empty (rules, 3.6): histories of which the definition says that the command was NAKed, and one of
-- which it does not.
-- Assumes nothing.
use Rattle.std.specs.Prelude.{ℕ, ◌+◌, ◌≡◌, true, false, List, [], ◌∷◌, ◌++◌, length, replicate}
use Rattle.machine.specs.History.{Event, trace, Leads}
use Rattle.memory.specs.Memories.{Memories}
use Rattle.uartboot_flow.specs.State.{State}
use Rattle.uartboot_flow.specs.Fresh.{fresh}
use Rattle.uartboot_flow.specs.Device.{device}
use Rattle.uartboot.specs.History.{since, last_of}
use Rattle.sessions.specs.Fakes.{small}

-- the history of a fresh session that is fed these bytes; no stream below has more than 16 replies
unfoldable pub history_of : Memories → (stream : List ℕ) → List (Event ℕ State)
history_of m stream = trace device (length stream + 16) (device.need (fresh m)) (fresh m) stream []

-- an Erase with a length that it doesn't have; one with a header that is accepted; that one with size 0 in its payload
abbrev pub refused_header : List ℕ
refused_header = 0x01 ∷ 0x04 ∷ 0x07 ∷ 0x00 ∷ []

abbrev pub accepted_header : List ℕ
accepted_header = 0x01 ∷ 0x04 ∷ 0x08 ∷ 0x00 ∷ []

abbrev pub refused_payload : List ℕ
refused_payload = accepted_header ++ replicate 8 0x00

pub record NakSpeaks : Type 0 where
  -- these are histories: ways of the session's actions
  pub leads : (m : Memories) (stream : List ℕ) → Leads device (fresh m) stream (history_of m stream)
  pub header_refused : last_of (history_of small refused_header) ≡ since small true
  pub payload_refused : last_of (history_of small refused_payload) ≡ since small true
  pub header_accepted : last_of (history_of small accepted_header) ≡ since small false
