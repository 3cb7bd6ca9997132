-- What every action leaves of a session's history: when code starts, what becomes of RAM and flash, and that an accepted payload still
-- passes its checks.
-- Assumes nothing.
use Rattle.std.specs.Prelude.{Option, Some, None}
use Prim.Native.Nat.{ℕ, ◌+◌}
use mathlib.Core.Path.{◌≡◌, refl, sym, ◌∙◌}
use mathlib.Core.Bool.{Bool, true, false, cond, not, ◌&&◌, and-true, and-false}
use mathlib.Core.List.{List, [], ◌∷◌}
use lib.Dec.{eqb, ltb}
use borrow.Author.Tests.{eqb-true}
use Rattle.wire.specs.Line.{soh, ack}
use Rattle.numbers.specs.Number.{paired}
use Rattle.wire.proofs.Tests.{in-cond}
use Rattle.machine.specs.Machine.{is_running}
use Rattle.machine.specs.Does.{Does, takes, sends, runs, need_of}
use Rattle.machine.specs.Acknowledged.{took_byte}
use Rattle.opcodes.specs.declared.Opcode.{Opcode}
use Rattle.opcodes.specs.Opcode.{opcode_of, has_length, is_run}
use Rattle.command.specs.Payload.{command_of}
use Rattle.opcodes.proofs.Opcodes.{bare-never-run}
use Rattle.command_execution.specs.declared.Ending.{Ending}
use Rattle.command_execution.specs.declared.Ending.TheVariants.{Silent, Answers, Runs, Failed}
use Rattle.memory.specs.Memories.{Memories}
use Rattle.command_execution.specs.Execution.{checked, executed}
use Rattle.command_execution.specs.Execution as execution
use Rattle.command_execution.proofs.Executions.{run-starts, others-never-run}
use Rattle.uartboot_flow.specs.declared.step.Step.{Step}
use Rattle.uartboot_flow.specs.declared.step.Step.TheVariants.{Greeting, Header, Command, Answer, Refusal, Running}
use Rattle.uartboot_flow.specs.declared.step.HeaderStep.{HeaderStep}
use Rattle.uartboot_flow.specs.declared.step.HeaderStep.TheVariants.{TakeSoh, TakeOpcode, TakeLow, TakeHigh}
use Rattle.uartboot_flow.specs.declared.step.CommandStep.{CommandStep}
use Rattle.uartboot_flow.specs.declared.step.CommandStep.TheVariants.{SendAck, TakePayload, SendPayloadAck, SendCrcLow, SendCrcHigh, TakeGo}
use Rattle.uartboot_flow.specs.declared.step.AnswerStep.{AnswerStep}
use Rattle.uartboot_flow.specs.declared.step.AnswerStep.TheVariants as a
use Rattle.uartboot_flow.specs.State.{State, state}
use Rattle.uartboot_flow.specs.Flow.{crc16, greeting_length, first, ends, executes, goes, headed, header, stored, command, answer, does_at, does}
use Rattle.uartboot_flow.specs.Sound.{Ready}
use Rattle.uartboot.specs.History.{awaits_run, is_soh, is_early, begins}

-- code runs
abbrev pub running : State → Bool
running s = is_running (need_of (does s))

-- RAM and flash are as they were
abbrev pub Stores : (s t : State) → Type 0
Stores s t = (t.mem.ram ≡ s.mem.ram) × (t.mem.flash ≡ s.mem.flash)

-- the steps between a command's 01 and its execution
abbrev pub is_before : Step → Bool
is_before (Greeting place) = false
is_before (Header step) = not (is_soh step)
is_before (Command opcode length step) = true
is_before (Answer opcode length step) = false
is_before Refusal = false
is_before (Running address) = false

-- an action leaves RAM and flash as they were, or it executes a command
pub data Goes (s t : State) : Type 0 where
  quiet : Stores s t → (is_before t.step ≡ true → is_before s.step ≡ true) → Goes s t
  acts : is_before s.step ≡ true → is_before t.step ≡ false → is_early s.step ≡ false → Goes s t

-- by whether a command begins with it
abbrev pub GoesIf : Bool → (s t : State) → Type 0
GoesIf true s t = Stores s t
GoesIf false s t = Goes s t

-- a payload that was accepted passes its checks
abbrev pub ChecksIn : Opcode → (length : ℕ) → Memories → CommandStep → Type 0
ChecksIn opcode length m SendAck = Unit {0}
ChecksIn opcode length m (TakePayload place) = Unit {0}
ChecksIn opcode length m SendPayloadAck = checked (command_of opcode length m.work) m ≡ 0
ChecksIn opcode length m SendCrcLow = checked (command_of opcode length m.work) m ≡ 0
ChecksIn opcode length m SendCrcHigh = checked (command_of opcode length m.work) m ≡ 0
ChecksIn opcode length m TakeGo = checked (command_of opcode length m.work) m ≡ 0

abbrev pub ChecksAt : Memories → Step → Type 0
ChecksAt m (Greeting place) = Unit {0}
ChecksAt m (Header step) = Unit {0}
ChecksAt m (Command opcode length step) = ChecksIn opcode length m step
ChecksAt m (Answer opcode length step) = Unit {0}
ChecksAt m Refusal = Unit {0}
ChecksAt m (Running address) = Unit {0}

-- an action at s, with these bytes in view, left t
pub record Left (s : State) (view : List ℕ) (t : State) : Type 0 where
  pub starts : running t ≡ (awaits_run s.step && took_byte ack view)
  pub goes_on : GoesIf (begins (record { state = s; view = view })) s t
  pub checks : ChecksAt t.mem t.step

abbrev pub Lefts : State → Does ℕ State → Type 0
Lefts s (takes next) = (b : ℕ) → Left s (b ∷ []) (next b)
Lefts s (sends byte next) = Left s [] next
Lefts s runs = Unit {0}

-- after an execution
ends-starts : (reason : ℕ) (opcode : Opcode) (ending : Ending) (m : Memories) → running (ends reason opcode ending m) ≡ execution.is_running ending
ends-starts reason opcode Silent m = refl
ends-starts reason opcode (Answers count) m = refl
ends-starts reason opcode (Runs address) m = refl
ends-starts reason opcode (Failed why) m = refl

ends-after : (reason : ℕ) (opcode : Opcode) (ending : Ending) (m : Memories) → is_before (ends reason opcode ending m).step ≡ false
ends-after reason opcode Silent m = refl
ends-after reason opcode (Answers count) m = refl
ends-after reason opcode (Runs address) m = refl
ends-after reason opcode (Failed why) m = refl

ends-checks : (reason : ℕ) (opcode : Opcode) (ending : Ending) (m : Memories) → ChecksAt (ends reason opcode ending m).mem (ends reason opcode ending m).step
ends-checks reason opcode Silent m = tt
ends-checks reason opcode (Answers count) m = tt
ends-checks reason opcode (Runs address) m = tt
ends-checks reason opcode (Failed why) m = tt

module _ (reason : ℕ) (m : Memories) where
  abbrev here : Step → State
  here step = state step reason m

  header-left : (step : HeaderStep) → Lefts (here (Header step)) (header reason m step)
  header-left TakeSoh = λ b. go b (eqb b soh) refl
    where
      go : (b : ℕ) (t : Bool) → eqb b soh ≡ t → Left (here (Header TakeSoh)) (b ∷ []) (goes reason m (Header (cond t TakeOpcode TakeSoh)))
      go b true e = record { starts = refl; goes_on = rw e (refl, refl); checks = tt }
      go b false e = record { starts = refl; goes_on = rw e (quiet (refl, refl) (λ z. z)); checks = tt }
  header-left TakeOpcode = λ b. record { starts = refl; goes_on = quiet (refl, refl) (λ z. refl); checks = tt }
  header-left (TakeLow opcode) = λ b. record { starts = refl; goes_on = quiet (refl, refl) (λ z. refl); checks = tt }
  header-left (TakeHigh opcode low) = λ b. go (opcode_of opcode) b (paired low b)
    where
      go : (known : Option Opcode) (b n : ℕ) → Left (here (Header (TakeHigh opcode low))) (b ∷ []) (headed reason m known n)
      go None b n = record { starts = refl; goes_on = quiet (refl, refl) (λ z. refl); checks = tt }
      go (Some known) b n =
          in-cond (Left (here (Header (TakeHigh opcode low))) (b ∷ [])) (not (has_length known n)) _ _
          (λ e. record { starts = refl; goes_on = quiet (refl, refl) (λ z. refl); checks = tt }) (λ e.
          in-cond (Left (here (Header (TakeHigh opcode low))) (b ∷ [])) (ltb _ n) _ _
          (λ e. record { starts = refl; goes_on = quiet (refl, refl) (λ z. refl); checks = tt })
          (λ e. record { starts = refl; goes_on = quiet (refl, refl) (λ z. refl); checks = tt }))

  executes-left : (opcode : Opcode) (n : ℕ) (step : CommandStep) (view : List ℕ) → is_early (Command opcode n step) ≡ false →
      execution.is_running (executed opcode n m).ending ≡ (awaits_run (Command opcode n step) && took_byte ack view) →
      Left (here (Command opcode n step)) view (executes reason m opcode n)
  executes-left opcode n step view e h =
      let x = executed opcode n m in
      record {
        starts = ends-starts reason opcode x.ending x.after ∙ h;
        goes_on = acts refl (ends-after reason opcode x.ending x.after) e;
        checks = ends-checks reason opcode x.ending x.after;
      }

  command-left : (opcode : Opcode) (n : ℕ) (step : CommandStep) → Ready (Command opcode n step) m → ChecksIn opcode n m step →
      Lefts (here (Command opcode n step)) (command reason m opcode n step)
  command-left opcode n SendAck h c =
      in-cond (Left (here (Command opcode n SendAck)) []) (eqb n 0) _ _
      (λ e. executes-left opcode n SendAck [] refl (others-never-run opcode n m (bare-never-run opcode n h.step_sound.0.has_length (eqb-true n 0 e))))
      (λ e. record { starts = refl; goes_on = quiet (refl, refl) (λ z. refl); checks = tt })
  command-left opcode n (TakePayload place) h c =
      λ b.
      let s = here (Command opcode n (TakePayload place)) in
      let m' = stored place b m in
      let why = checked (command_of opcode n m'.work) m' in
      in-cond (Left s (b ∷ [])) (ltb (place + 1) n) _ _
      (λ e. record { starts = refl; goes_on = quiet (refl, refl) (λ z. refl); checks = tt }) (λ e.
      in-cond (Left s (b ∷ [])) (eqb why 0) _ _
      (λ f. record { starts = refl; goes_on = quiet (refl, refl) (λ z. refl); checks = eqb-true why 0 f })
      (λ f. record { starts = refl; goes_on = quiet (refl, refl) (λ z. refl); checks = tt }))
  command-left opcode n SendPayloadAck h c = record { starts = refl; goes_on = quiet (refl, refl) (λ z. refl); checks = c }
  command-left opcode n SendCrcLow h c = record { starts = refl; goes_on = quiet (refl, refl) (λ z. refl); checks = c }
  command-left opcode n SendCrcHigh h c = record { starts = refl; goes_on = quiet (refl, refl) (λ z. refl); checks = c }
  command-left opcode n TakeGo h c = λ b. go b (eqb b ack) refl
    where
      go : (b : ℕ) (t : Bool) → eqb b ack ≡ t → Left (here (Command opcode n TakeGo)) (b ∷ []) (cond t (executes reason m opcode n) (state first 20 m))
      go b true e = executes-left opcode n TakeGo (b ∷ []) refl (run-starts opcode n m c ∙ rw e (sym (and-true (is_run opcode))))
      go b false e = record { starts = rw e (sym (and-false (is_run opcode))); goes_on = quiet (refl, refl) (λ z. refl); checks = tt }

  answer-left : (opcode : Opcode) (n : ℕ) (step : AnswerStep) → Lefts (here (Answer opcode n step)) (answer reason m opcode n step)
  answer-left opcode n a.SendLengthLow = record { starts = refl; goes_on = quiet (refl, refl) (λ z. z); checks = tt }
  answer-left opcode n a.SendLengthHigh = record { starts = refl; goes_on = quiet (refl, refl) (λ z. z); checks = tt }
  answer-left opcode n a.TakeGo =
      λ b. in-cond (Left (here (Answer opcode n a.TakeGo)) (b ∷ [])) (eqb b ack) _ _
      (λ e. record { starts = refl; goes_on = quiet (refl, refl) (λ z. z); checks = tt })
      (λ e. record { starts = refl; goes_on = quiet (refl, refl) (λ z. z); checks = tt })
  answer-left opcode n (a.SendAnswer place) =
      in-cond (λ (x : AnswerStep). Left (here (Answer opcode n (a.SendAnswer place))) [] (here (Answer opcode n x))) (ltb (place + 1) n) (a.SendAnswer (place + 1)) a.TakeCrcLow
      (λ e. record { starts = refl; goes_on = quiet (refl, refl) (λ z. z); checks = tt })
      (λ e. record { starts = refl; goes_on = quiet (refl, refl) (λ z. z); checks = tt })
  answer-left opcode n a.TakeCrcLow = λ b. record { starts = refl; goes_on = quiet (refl, refl) (λ z. z); checks = tt }
  answer-left opcode n (a.TakeCrcHigh low) =
      λ b. in-cond (Left (here (Answer opcode n (a.TakeCrcHigh low))) (b ∷ [])) (eqb (paired low b) (crc16 n m.work)) _ _
      (λ e. record { starts = refl; goes_on = quiet (refl, refl) (λ z. z); checks = tt })
      (λ e. record { starts = refl; goes_on = quiet (refl, refl) (λ z. z); checks = tt })
  answer-left opcode n a.SendAck = record { starts = refl; goes_on = quiet (refl, refl) (λ z. z); checks = tt }

  pub does-left : (step : Step) → Ready step m → ChecksAt m step → Lefts (here step) (does_at reason m step)
  does-left (Greeting place) h c =
      in-cond (λ (x : Step). Left (here (Greeting place)) [] (here x)) (ltb (place + 1) greeting_length) (Greeting (place + 1)) (Header TakeSoh)
      (λ e. record { starts = refl; goes_on = quiet (refl, refl) (λ z. z); checks = tt })
      (λ e. record { starts = refl; goes_on = quiet (refl, refl) (λ z. z); checks = tt })
  does-left (Header step) h c = header-left step
  does-left (Command opcode n step) h c = command-left opcode n step h c
  does-left (Answer opcode n step) h c = answer-left opcode n step
  does-left Refusal h c = record { starts = refl; goes_on = quiet (refl, refl) (λ z. z); checks = tt }
  does-left (Running address) h c = tt
