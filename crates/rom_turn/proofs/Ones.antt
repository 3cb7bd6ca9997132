-- One byte taken, one sent.
-- Assumes nothing.
use Prim.Native.Nat.{ℕ, ◌<◌}
use mathlib.Core.Path.{◌≡◌}
use mathlib.Core.List.{List}
use lib.ListN.{length, get_or, set}
use Rattle.machine.specs.Does.{sends}
use Rattle.machine.specs.Steps.{Taken, Sent}
use Rattle.machine.proofs.Bulks.{take-one, send-one}
use Rattle.rom_flow.specs.declared.kind.Kind.{Kind}
use Rattle.rom_flow.specs.declared.step.Step.{Step}
use Rattle.machine.specs.declared.step.Progress.{Progress}
use Rattle.machine.specs.declared.step.Moved.{Moved}
use Rattle.rom_flow.specs.declared.ask.Taking.{Taking}
use Rattle.rom_flow.specs.State.{state}
use Rattle.rom_flow.specs.Flow.{goes, does_at, does, took}
use Rattle.rom_flow.specs.Due.{due}
use Rattle.rom_flow.specs.Receiver.{receiver}
use Rattle.rom_flow.specs.Ask.{step_of}
use Rattle.rom_flow.proofs.Asks.{taking-takes}

module _ (kind : Kind) (reason : ℕ) (ram : List ℕ) where
  -- of a taking x that is known to be y
  pub takes_one : (x y : Taking) → x ≡ y → (input : List ℕ) (i : ℕ) → i < length input → (p : Progress Step) →
      state kind p.step p.reason ram ≡ took (state kind (step_of y) reason ram) (get_or input i 0) →
      (r : Moved Step) → r ≡ record { step = p.step; reason = p.reason; count = 1 } →
      Taken receiver input i (state kind (step_of x) reason ram) r.count (state kind r.step r.reason ram)
  takes_one x y e input i h p f r g = rw (e, g) (take-one does due input i _ _ (taking-takes kind reason ram y) h f)

  pub sends-one : (step : Step) (b : ℕ) (next : Step) → does_at kind reason ram step ≡ sends b (goes kind reason ram next) →
      (old : List ℕ) (j : ℕ) → j < length old → (p : Progress Step) → p ≡ record { step = next; reason = reason } →
      (r : Moved Step) → r ≡ record { step = p.step; reason = p.reason; count = 1 } →
      Sent receiver (state kind step reason ram) j old r.count (state kind r.step r.reason ram) (set old j b)
  sends-one step b next e old j h p f r g = rw (g, f) (send-one does due old j _ _ b e h)
