-- The count of due sends falls by one with each.
-- Assumes nothing.
use Prim.Native.Nat.{ℕ, suc, ◌+◌, ◌-◌, ◌<◌}
use native.Mathlib.Omega.{arith}
use mathlib.Core.Path.{◌≡◌, refl, ap}
use mathlib.Core.Bool.{Bool, true, false, cond}
use lib.Dec.{eqb, ltb}
use borrow.Author.Tests.{ltb-false}
use Rattle.wire.proofs.Tests.{in-cond}
use Rattle.machine.proofs.Doing.{Counted}
use Rattle.opcodes.specs.declared.Opcode.{Opcode}
use Rattle.command_execution.specs.declared.Ending.{Ending}
use Rattle.command_execution.specs.declared.Ending.TheVariants.{Silent, Answers, Runs, Failed}
use Rattle.memory.specs.Memories.{Memories}
use Rattle.command_execution.specs.Execution.{executed}
use Rattle.uartboot_flow.specs.declared.step.Step.{Step}
use Rattle.uartboot_flow.specs.declared.step.Step.TheVariants.{Greeting, Header, Command, Answer, Refusal, Running}
use Rattle.uartboot_flow.specs.declared.step.HeaderStep.TheVariants.{TakeSoh, TakeOpcode, TakeLow, TakeHigh}
use Rattle.uartboot_flow.specs.declared.step.HeaderStep.{HeaderStep}
use Rattle.uartboot_flow.specs.declared.step.CommandStep.{CommandStep}
use Rattle.uartboot_flow.specs.declared.step.CommandStep.TheVariants.{SendAck, TakePayload, SendPayloadAck, SendCrcLow, SendCrcHigh, TakeGo}
use Rattle.uartboot_flow.specs.declared.step.AnswerStep.{AnswerStep}
use Rattle.uartboot_flow.specs.declared.step.AnswerStep.TheVariants as a
use Rattle.uartboot_flow.specs.State.{state}
use Rattle.uartboot_flow.specs.Flow.{ends, executes, goes, header, command, answer, does_at}
use Rattle.uartboot_flow.specs.Due.{due_behind, due_answer, due_at, due}
use Rattle.uartboot_flow.specs.Sound.{Ready}

ends-due : (reason : ℕ) (opcode : Opcode) (ending : Ending) (m : Memories) → due_behind ending ≡ due (ends reason opcode ending m)
ends-due reason opcode Silent m = refl
ends-due reason opcode (Answers count) m = refl
ends-due reason opcode (Runs address) m = refl
ends-due reason opcode (Failed why) m = refl

module _ (reason : ℕ) (m : Memories) where
  header-due : (step : HeaderStep) → Counted due (state (Header step) reason m) (header reason m step)
  header-due TakeSoh = tt
  header-due TakeOpcode = tt
  header-due (TakeLow opcode) = tt
  header-due (TakeHigh opcode low) = tt

  command-due : (opcode : Opcode) (n : ℕ) (step : CommandStep) → Counted due (state (Command opcode n step) reason m) (command reason m opcode n step)
  command-due opcode n SendAck = go (eqb n 0)
    where
      go : (t : Bool) → ◌≡◌ {A = ℕ} (suc (cond t (due_behind (executed opcode n m).ending) 0))
          (suc (due (cond t (executes reason m opcode n) (goes reason m (Command opcode n (TakePayload 0))))))
      go true = ap suc (ends-due reason opcode (executed opcode n m).ending (executed opcode n m).after)
      go false = refl
  command-due opcode n (TakePayload place) = tt
  command-due opcode n SendPayloadAck = refl
  command-due opcode n SendCrcLow = refl
  command-due opcode n SendCrcHigh = refl
  command-due opcode n TakeGo = tt

  answer-due : (opcode : Opcode) (n : ℕ) (step : AnswerStep) → Ready (Answer opcode n step) m →
      Counted due (state (Answer opcode n step) reason m) (answer reason m opcode n step)
  answer-due opcode n a.SendLengthLow h = refl
  answer-due opcode n a.SendLengthHigh h = refl
  answer-due opcode n a.TakeGo h = tt
  answer-due opcode n (a.SendAnswer place) h =
      let inside : place < n = h.step_sound.1 in
      in-cond (λ (next : AnswerStep). n - place ≡ suc (due_answer n next)) (ltb (place + 1) n) (a.SendAnswer (place + 1)) a.TakeCrcLow
      (λ e. omega arith) (λ e. omega (arith, ltb-false (place + 1) n e))
  answer-due opcode n a.TakeCrcLow h = tt
  answer-due opcode n (a.TakeCrcHigh low) h = tt
  answer-due opcode n a.SendAck h = refl

  pub does-due : (step : Step) → Ready step m → Counted due (state step reason m) (does_at reason m step)
  does-due (Greeting place) h =
      let inside : place < 4 = h.step_sound in
      in-cond (λ (next : Step). 4 - place ≡ suc (due_at m next)) (ltb (place + 1) 4) (Greeting (place + 1)) (Header TakeSoh)
      (λ e. omega arith) (λ e. omega (arith, ltb-false (place + 1) 4 e))
  does-due (Header step) h = header-due step
  does-due (Command opcode n step) h = command-due opcode n step
  does-due (Answer opcode n step) h = answer-due opcode n step h
  does-due Refusal h = refl
  does-due (Running address) h = tt
