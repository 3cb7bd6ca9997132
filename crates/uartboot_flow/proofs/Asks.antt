-- What is asked says what the step needs, and what may be relied on.
-- Assumes nothing.
use Prim.Native.Nat.{ℕ}
use mathlib.Core.Path.{◌≡◌, refl, ap}
use Rattle.machine.specs.Machine as machine
use Rattle.machine.specs.Does.{Does, need_of}
use Rattle.memory.specs.Memories.{Memories}
use Rattle.uartboot_flow.specs.declared.step.Step.{Step}
use Rattle.uartboot_flow.specs.declared.step.Step.TheVariants.{Header}
use Rattle.uartboot_flow.specs.declared.step.HeaderStep.{HeaderStep}
use Rattle.uartboot_flow.specs.declared.step.HeaderStep.TheVariants.{TakeSoh, TakeOpcode, TakeLow, TakeHigh}
use Rattle.uartboot_flow.specs.declared.ask.Taking.{Taking}
use Rattle.uartboot_flow.specs.declared.ask.Taking.TheVariants as taking
use Rattle.uartboot_flow.specs.declared.ask.Sending.{Sending}
use Rattle.uartboot_flow.specs.declared.ask.Sending.TheVariants as sending
use Rattle.uartboot_flow.specs.State.{State}
use Rattle.uartboot_flow.specs.Flow.{does_at}
use Rattle.uartboot_flow.specs.Sound.{Ready}
use Rattle.uartboot_flow.specs.Ask.{step_of, SendsSo, ReadyTo}

abbrev need_at : (reason : ℕ) → Memories → Step → machine.Need
need_at reason m step = need_of (does_at reason m step)

module _ (reason : ℕ) (m : Memories) where
  header-takes : (step : HeaderStep) → need_at reason m (Header step) ≡ machine.take_one
  header-takes TakeSoh = refl
  header-takes TakeOpcode = refl
  header-takes (TakeLow opcode) = refl
  header-takes (TakeHigh opcode low) = refl

  pub taking-takes : (x : Taking) → need_at reason m (step_of x) ≡ machine.take_one
  taking-takes (taking.Header step) = header-takes step
  taking-takes (taking.Payload opcode size place) = refl
  taking-takes (taking.Go opcode size) = refl
  taking-takes (taking.AnswerGo opcode size) = refl
  taking-takes (taking.HostCrcLow opcode size) = refl
  taking-takes (taking.HostCrcHigh opcode size low) = refl

  pub sending-sends : (x : Sending) (step : Step) → SendsSo x step → need_at reason m step ≡ machine.send_one
  sending-sends (sending.Byte byte next) step e = ap (λ (d : Does ℕ State). need_of d) (e.is reason m)
  sending-sends (sending.Acceptance opcode size) step e = rw e refl
  sending-sends (sending.Crc opcode size) step e = rw e refl
  sending-sends (sending.CrcHigh opcode size) step e = rw e refl
  sending-sends (sending.Answer opcode size place) step e = rw e refl

pub ready-to : (m : Memories) (x : Sending) (step : Step) → SendsSo x step → Ready step m → ReadyTo x m
ready-to m (sending.Byte byte next) step e h = tt
ready-to m (sending.Acceptance opcode size) step e h = rw e at h
ready-to m (sending.Crc opcode size) step e h = rw e at h
ready-to m (sending.CrcHigh opcode size) step e h = rw e at h
ready-to m (sending.Answer opcode size place) step e h = rw e at h
