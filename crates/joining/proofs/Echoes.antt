-- Bytes that close need not be the only ones: two machines that echo close on nothing, and on every byte too, which neither ever sends.
-- Assumes nothing.
use Prim.Native.Nat.{ℕ}
use mathlib.Core.Path.{refl}
use mathlib.Core.List.{[], ◌∷◌}
use Rattle.machine.specs.Machine.{Machine}
use Rattle.machine.specs.Does.{Does, takes, sends, line_of}
use Rattle.machine.specs.Uncut.{drain, feed, uncut}
use Rattle.joining.specs.Closing.{Closes}

pub data Echo : Type 0 where
  listens : Echo
  holds : (byte : ℕ) → Echo

abbrev echoes : Echo → Does ℕ Echo
echoes listens = takes holds
echoes (holds byte) = sends byte listens

abbrev due_of : Echo → ℕ
due_of listens = 0
due_of (holds byte) = 1

abbrev echo : Machine ℕ Echo
echo = line_of echoes due_of

pub echoes-close : Closes echo echo listens listens [] []
unfolding drain feed uncut
echoes-close = record { left_sends = refl; right_sends = refl }

pub echoes-close-too : (byte : ℕ) → Closes echo echo listens listens (byte ∷ []) (byte ∷ [])
unfolding drain feed uncut
echoes-close-too byte = record { left_sends = refl; right_sends = refl }
