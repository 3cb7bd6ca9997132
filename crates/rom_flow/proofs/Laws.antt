-- The receiver is a lawful machine, with its sound states and with any, and its actions keep the RAM's length.
-- Assumes nothing.
use Prim.Native.Nat.{ℕ}
use mathlib.Core.Path.{refl}
use mathlib.Core.List.{List, []}
use Rattle.machine.specs.Lawful.{Any, Lawful}
use Rattle.machine.proofs.Doing.{Counted, does-lawful, leaves-weaken, leaves-any}
use Rattle.rom_flow.specs.declared.kind.Kind.{Kind}
use Rattle.rom_flow.specs.declared.step.HeaderStep.{HeaderStep}
use Rattle.rom_flow.specs.declared.step.HeaderStep.TheVariants.{TakeSoh, TakeLow, TakeHigh, TakeExtendedLow, TakeExtendedHigh}
use Rattle.rom_flow.specs.declared.step.Step.{Step}
use Rattle.rom_flow.specs.declared.step.Step.TheVariants.{SendStx, Header, SendAck, TakeCode, SendXor, TakeAck, SendNak, Running}
use Rattle.rom_flow.specs.State.{State, state}
use Rattle.rom_flow.specs.Flow.{header, does_at, does}
use Rattle.rom_flow.specs.Due.{due}
use Rattle.rom_flow.specs.Receiver.{receiver}
use Rattle.rom_flow.specs.Sound.{Sound}
use Rattle.rom_flow.proofs.Sounds.{Held, stays-held}

-- a byte that is sent was counted
module _ (kind : Kind) (reason : ℕ) (ram : List ℕ) where
  header-due : (step : HeaderStep) → Counted due (state kind (Header step) reason ram) (header kind reason ram step)
  header-due TakeSoh = tt
  header-due TakeLow = tt
  header-due (TakeHigh low) = tt
  header-due TakeExtendedLow = tt
  header-due (TakeExtendedHigh low) = tt

  does-due : (step : Step) → Counted due (state kind step reason ram) (does_at kind reason ram step)
  does-due SendStx = refl
  does-due (Header step) = header-due step
  does-due (SendAck total) = refl
  does-due (TakeCode total place) = tt
  does-due (SendXor total) = refl
  does-due (TakeAck total) = tt
  does-due SendNak = refl
  does-due (Running address) = tt

counts : (s : State) → Counted due s (does s)
counts s = does-due s.kind s.reason s.ram s.step

pub held : (ram₀ : List ℕ) (Good : ℕ → Type 0) → Lawful receiver Good (Held ram₀)
held ram₀ Good = does-lawful does due Good (Held ram₀) (stays-held ram₀ Good) (λ s h. counts s)

pub lawful : (Good : ℕ → Type 0) → Lawful receiver Good Sound
lawful Good =
    does-lawful does due Good Sound
    (λ s h. leaves-weaken Good (Held s.ram) Sound [] s (does s) (λ t k. k.ready) (stays-held s.ram Good s (record { ready = h; same = refl })))
    (λ s h. counts s)

-- any state at all
pub lawful-any : Lawful receiver Any Any
lawful-any = does-lawful does due Any Any (λ s h. leaves-any Any [] s (does s)) (λ s h. counts s)
