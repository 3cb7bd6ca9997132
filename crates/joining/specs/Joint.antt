-- Two machines joined by a clean line: each is shown what the other has sent and it has not yet taken, in any pieces and with any room
-- (rules, 15.9).
-- Assumes nothing.
use Rattle.std.specs.Prelude.{ℕ, take, drop}
use mathlib.Core.List.{List, foldl}
use Rattle.machine.specs.Machine.{Machine}
use Rattle.machine.specs.Outcome.{Outcome, halt, join}
use Rattle.machine.specs.Call.{call}

-- what both have done so far
pub record Both (S K : Type 0) : Type 0 where
  pub left : Outcome S
  pub right : Outcome K

-- nothing yet
abbrev pub begun : {S K : Type 0} → S → K → Both S K
begun s t = record { left = halt s; right = halt t }

-- what the other has sent and is not yet taken
abbrev pub queue : {S K : Type 0} → Outcome S → Outcome K → List ℕ
queue mine other = drop mine.taken other.replies

-- what one side has done after a call that is shown `shown` bytes of its queue, with room for `room` bytes
abbrev pub called : {S K : Type 0} → Machine ℕ S → Outcome S → Outcome K → (shown room : ℕ) → Outcome S
called m mine other shown room = join mine (call m mine.final (take shown (queue mine other)) room)

-- a call on one side
pub data Turn : Type 0 where
  on_left : (shown room : ℕ) → Turn
  on_right : (shown room : ℕ) → Turn

module _ {S K : Type 0} (m : Machine ℕ S) (k : Machine ℕ K) where
  abbrev pub turn : Both S K → Turn → Both S K
  turn b (on_left shown room) = record { left = called m b.left b.right shown room; right = b.right }
  turn b (on_right shown room) = record { left = b.left; right = called k b.right b.left shown room }

  -- a schedule of calls
  abbrev pub turns : Both S K → List Turn → Both S K
  turns b ts = foldl turn b ts
