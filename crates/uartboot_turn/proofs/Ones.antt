-- One byte taken, one sent.
-- Assumes nothing.
use Prim.Native.Nat.{ℕ, ◌<◌}
use mathlib.Core.Path.{◌≡◌}
use mathlib.Core.List.{List}
use lib.ListN.{length, get_or, set}
use Rattle.machine.specs.Does.{sends}
use Rattle.machine.specs.Steps.{Taken, Sent}
use Rattle.machine.proofs.Bulks.{take-one, send-one}
use Rattle.memory.specs.Memories.{Memories}
use Rattle.uartboot_flow.specs.declared.step.Step.{Step}
use Rattle.machine.specs.declared.step.Progress.{Progress}
use Rattle.machine.specs.declared.step.Moved.{Moved}
use Rattle.uartboot_flow.specs.declared.ask.Taking.{Taking}
use Rattle.uartboot_flow.specs.State.{State, state}
use Rattle.uartboot_flow.specs.Flow.{does_at, does, took}
use Rattle.uartboot_flow.specs.Due.{due}
use Rattle.uartboot_flow.specs.Device.{device}
use Rattle.uartboot_flow.specs.Ask.{step_of}
use Rattle.uartboot_flow.specs.Gives.{state_of}
use Rattle.uartboot_flow.proofs.Asks.{taking-takes}

module _ (reason : ℕ) (m m' : Memories) where
  -- of a taking x that is known to be y
  pub takes_one : (x y : Taking) → x ≡ y → (input : List ℕ) (i : ℕ) → i < length input → (p : Progress Step) →
      state_of p m' ≡ took (state (step_of y) reason m) (get_or input i 0) → (r : Moved Step) → r ≡ record { step = p.step; reason = p.reason; count = 1 } →
      Taken device input i (state (step_of x) reason m) r.count (state r.step r.reason m')
  takes_one x y e input i h p f r g = rw (e, g) (take-one does due input i _ _ (taking-takes reason m y) h f)

  pub sends-one : (step : Step) (b : ℕ) (t : State) → does_at reason m step ≡ sends b t → (old : List ℕ) (j : ℕ) → j < length old → (p : Progress Step) →
      state_of p m' ≡ t → (r : Moved Step) → r ≡ record { step = p.step; reason = p.reason; count = 1 } →
      Sent device (state step reason m) j old r.count (state r.step r.reason m') (set old j b)
  sends-one step b t e old j h p f r g = rw (g, f) (send-one does due old j _ _ b e h)
