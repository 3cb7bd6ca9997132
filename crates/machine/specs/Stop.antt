-- Where a program's loop over a machine's actions stopped, in a call's numbers.
-- Assumes nothing.
use Rattle.std.specs.Prelude.{ℕ, List}
use Rattle.machine.specs.Machine.{Machine}
use Rattle.machine.specs.Loop.{Acted}
use Rattle.machine.specs.declared.Record.{Record}
use Rattle.machine.specs.declared.Accepted.{Accepted}
use Rattle.machine.specs.declared.stop.Standing.{Standing}
use Rattle.machine.specs.declared.stop.Standing.TheVariants.{NeedsByte, NeedsRoom, Ended}
use Rattle.machine.specs.declared.stop.Stop.{Stop}

abbrev pub standing_number : Standing → ℕ
standing_number NeedsByte = 1
standing_number NeedsRoom = 2
standing_number Ended = 3

module _ {Step : Type 0} (stop : Stop Step) where
  -- what an accepted call did, with the record of its last step
  abbrev pub accepted_at : Record → Accepted
  accepted_at session = record { standing = stop.standing; taken = stop.at.taken; sent = stop.at.sent; session = session }

-- the call at s stopped so, came to `final` and left `reply` in the slice that held `old`
abbrev pub ActedTo : {A S Step : Type 0} → Machine A S → (s : S) (input : List A) (old : List ℕ) → Stop Step → (final : S) (reply : List ℕ) → Type 0
ActedTo m s input old stop final reply = Acted m s input old stop.at.taken stop.at.sent (standing_number stop.standing) final reply
