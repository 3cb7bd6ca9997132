-- What the step of a taking, or of a sending, needs.
-- Assumes nothing.
use Prim.Native.Nat.{ℕ}
use mathlib.Core.Path.{◌≡◌, refl, ap}
use mathlib.Core.List.{List}
use Rattle.machine.specs.Machine as machine
use Rattle.machine.specs.Does.{Does, need_of}
use Rattle.rom_flow.specs.declared.kind.Kind.{Kind}
use Rattle.rom_flow.specs.declared.step.HeaderStep.{HeaderStep}
use Rattle.rom_flow.specs.declared.step.HeaderStep.TheVariants.{TakeSoh, TakeLow, TakeHigh, TakeExtendedLow, TakeExtendedHigh}
use Rattle.rom_flow.specs.declared.step.Step.{Step}
use Rattle.rom_flow.specs.declared.ask.Sending.{Sending}
use Rattle.rom_flow.specs.declared.ask.Sending.TheVariants.{Byte, Xor}
use Rattle.rom_flow.specs.declared.ask.Taking.{Taking}
use Rattle.rom_flow.specs.declared.ask.Taking.TheVariants.{Header, Code, Ack}
use Rattle.rom_flow.specs.State.{State}
use Rattle.rom_flow.specs.Flow.{header, does_at}
use Rattle.rom_flow.specs.Ask.{step_of, SendsSo}

module _ (kind : Kind) (reason : ℕ) (ram : List ℕ) where
  header-takes : (step : HeaderStep) → need_of (header kind reason ram step) ≡ machine.take_one
  header-takes TakeSoh = refl
  header-takes TakeLow = refl
  header-takes (TakeHigh low) = refl
  header-takes TakeExtendedLow = refl
  header-takes (TakeExtendedHigh low) = refl

  pub taking-takes : (x : Taking) → need_of (does_at kind reason ram (step_of x)) ≡ machine.take_one
  taking-takes (Header step) = header-takes step
  taking-takes (Code total place) = refl
  taking-takes (Ack total) = refl

  pub sending-sends : (x : Sending) (step : Step) → SendsSo x step → need_of (does_at kind reason ram step) ≡ machine.send_one
  sending-sends (Byte byte next) step e = ap (λ (d : Does ℕ State). need_of d) (e.is kind reason ram)
  sending-sends (Xor total) step e = rw e refl
