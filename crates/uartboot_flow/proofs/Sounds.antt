-- Every action leaves a sound state, and memories of the same lengths.
-- Assumes nothing.
use Rattle.std.specs.Prelude.{Option, Some, None}
use Prim.Native.Nat.{ℕ, ◌+◌, ◌<◌}
use native.Mathlib.Omega.{arith}
use mathlib.Core.Path.{◌≡◌, ◌∙◌}
use mathlib.Core.Bool.{cond, not}
use mathlib.Core.List.{[]}
use lib.Dec.{eqb, ltb}
use lib.ListN.{length, length-set}
use borrow.Author.Tests.{ltb-true, ltb-false, eqb-false, not-false}
use Rattle.wire.specs.Line.{soh, ack}
use Rattle.numbers.specs.Number.{paired}
use Rattle.wire.proofs.Tests.{in-cond}
use Rattle.machine.specs.Does.{Does}
use Rattle.machine.proofs.Doing.{Leaves}
use Rattle.opcodes.specs.declared.Opcode.{Opcode}
use Rattle.opcodes.specs.Opcode.{unknown_opcode, bad_length, opcode_of, has_length}
use Rattle.command.specs.Payload.{Carried, command_of}
use Rattle.command_execution.specs.declared.Ending.{Ending}
use Rattle.command_execution.specs.declared.Ending.TheVariants.{Silent, Answers, Runs, Failed}
use Rattle.memory.specs.Memories.{Memories, Fitting, SameLengths}
use Rattle.command_execution.specs.Execution.{executed, checked}
use Rattle.command_execution.proofs.Executions.{Fine, executed-keeps}
use Rattle.uartboot_flow.specs.declared.step.Step.{Step}
use Rattle.uartboot_flow.specs.declared.step.Step.TheVariants.{Greeting, Header, Command, Answer, Refusal, Running}
use Rattle.uartboot_flow.specs.declared.step.HeaderStep.{HeaderStep}
use Rattle.uartboot_flow.specs.declared.step.HeaderStep.TheVariants.{TakeSoh, TakeOpcode, TakeLow, TakeHigh}
use Rattle.uartboot_flow.specs.declared.step.CommandStep.{CommandStep}
use Rattle.uartboot_flow.specs.declared.step.CommandStep.TheVariants.{SendAck, TakePayload, SendPayloadAck, SendCrcLow, SendCrcHigh, TakeGo}
use Rattle.uartboot_flow.specs.declared.step.AnswerStep.{AnswerStep}
use Rattle.uartboot_flow.specs.declared.step.AnswerStep.TheVariants as a
use Rattle.uartboot_flow.specs.State.{State, state}
use Rattle.uartboot_flow.specs.Flow.{long_payload, crc_differs, not_acked, crc16, first, goes, refuses, ends, executes, headed, header, arrived, stored, command, showed, answer, does_at, does}
use Rattle.uartboot_flow.specs.Sound.{SoundStep, SoundAnswer, Ready}

abbrev Fits : Memories → Type 0
Fits m = Fitting (length m.ram) (length m.flash) (length m.work)

-- a sound state whose memories have the lengths of m₀
pub record Held (m₀ : Memories) (s : State) : Type 0 where
  pub ready : Ready s.step s.mem
  pub same : SameLengths s.mem m₀

module _ (m₀ : Memories) where
  at : (step : Step) (reason : ℕ) (m : Memories) → Fits m → SameLengths m m₀ → SoundStep (length m.ram) (length m.work) step →
      Held m₀ (state step reason m)
  at step reason m fit same h = record { ready = record { fitting = fit; step_sound = h }; same = same }

  -- after an execution
  ends_held : (reason : ℕ) (opcode : Opcode) (ending : Ending) (m after : Memories) → Fits after → SameLengths after m₀ →
      length after.ram ≡ length m.ram → length after.work ≡ length m.work →
      Fine opcode (length m.ram) (length m.work) ending → Held m₀ (ends reason opcode ending after)
  ends_held reason opcode Silent m after fit same r w h = at first reason after fit same (omega arith)
  ends_held reason opcode (Answers count) m after fit same r w h = at (Answer opcode count a.SendLengthLow) reason after fit same (rw w h, tt)
  ends_held reason opcode (Runs address) m after fit same r w h = at (Running address) reason after fit same (rw r h)
  ends_held reason opcode (Failed why) m after fit same r w h = at Refusal why after fit same tt

  module _ (reason : ℕ) (m : Memories) (fit : Fits m) (same : SameLengths m m₀) where
    executes-held : (opcode : Opcode) (n : ℕ) → Held m₀ (executes reason m opcode n)
    executes-held opcode n =
        let e = executed opcode n m in
        let k = executed-keeps opcode n m fit in
        let l = k.lengths in
        let after_same : SameLengths e.after m₀ =
        record { same_ram = l.same_ram ∙ same.same_ram; same_flash = l.same_flash ∙ same.same_flash; same_work = l.same_work ∙ same.same_work } in
        ends_held reason opcode e.ending m e.after (rw (l.same_ram, l.same_flash, l.same_work) fit) after_same l.same_ram l.same_work k.fine

    refuses-held : (why : ℕ) → Held m₀ (refuses reason m why)
    refuses-held why = at Refusal why m fit same tt

    first-held : (why : ℕ) → Held m₀ (state first why m)
    first-held why = at first why m fit same (omega arith)

    on : (step : Step) → SoundStep (length m.ram) (length m.work) step → Held m₀ (goes reason m step)
    on step h = at step reason m fit same h

    headed-held : (known : Option Opcode) (n : ℕ) → Held m₀ (headed reason m known n)
    headed-held None n = refuses-held unknown_opcode
    headed-held (Some opcode) n =
        in-cond (Held m₀) (not (has_length opcode n)) _ _ (λ e. refuses-held bad_length) (λ e.
        in-cond (Held m₀) (ltb (length m.work) n) _ _ (λ f. refuses-held long_payload) (λ f.
        on (Command opcode n SendAck) (record { has_length = not-false _ e; in_work = ltb-false _ _ f }, tt)))

    arrived-held : (opcode : Opcode) (n count : ℕ) → Carried opcode n (length m.work) → 0 < n → Held m₀ (arrived reason m opcode n count)
    arrived-held opcode n count c some =
        let why = checked (command_of opcode n m.work) m in
        in-cond (Held m₀) (ltb count n) _ _ (λ e. on (Command opcode n (TakePayload count)) (c, ltb-true _ _ e)) (λ e.
        in-cond (Held m₀) (eqb why 0) _ _ (λ f. on (Command opcode n SendPayloadAck) (c, some)) (λ f. refuses-held why))

  module _ (Good : ℕ → Type 0) (s : State) (reason : ℕ) (m : Memories) (fit : Fits m) (same : SameLengths m m₀) where
    abbrev Stays : Does ℕ State → Type 0
    Stays d = Leaves Good (λ _ t. Held m₀ t) [] s d

    header-held : (step : HeaderStep) → Stays (header reason m step)
    header-held TakeSoh = λ b g. on reason m fit same (Header (cond (eqb b soh) TakeOpcode TakeSoh)) tt
    header-held TakeOpcode = λ b g. on reason m fit same (Header (TakeLow b)) tt
    header-held (TakeLow opcode) = λ b g. on reason m fit same (Header (TakeHigh opcode b)) tt
    header-held (TakeHigh opcode low) = λ b g. headed-held reason m fit same (opcode_of opcode) (paired low b)

    command-held : (opcode : Opcode) (n : ℕ) (step : CommandStep) → SoundStep (length m.ram) (length m.work) (Command opcode n step) →
        Stays (command reason m opcode n step)
    command-held opcode n SendAck h =
        in-cond (Held m₀) (eqb n 0) _ _ (λ e. executes-held reason m fit same opcode n)
        (λ e. on reason m fit same (Command opcode n (TakePayload 0)) (h.0, omega (arith, eqb-false n 0 e)))
    command-held opcode n (TakePayload place) h =
        λ b g.
        let w = length-set m.work place b in
        let stored_same : SameLengths (stored place b m) m₀ =
        record { same_ram = same.same_ram; same_flash = same.same_flash; same_work = w ∙ same.same_work } in
        arrived-held reason (stored place b m) (rw w fit) stored_same opcode n (place + 1) (rw w h.0) (omega (arith, h.1))
    command-held opcode n SendPayloadAck h = on reason m fit same (Command opcode n SendCrcLow) h
    command-held opcode n SendCrcLow h = on reason m fit same (Command opcode n SendCrcHigh) h
    command-held opcode n SendCrcHigh h = on reason m fit same (Command opcode n TakeGo) h
    command-held opcode n TakeGo h =
        λ b g. in-cond (Held m₀) (eqb b ack) _ _ (λ e. executes-held reason m fit same opcode n) (λ e. first-held reason m fit same not_acked)

    answer-held : (opcode : Opcode) (n : ℕ) (step : AnswerStep) → SoundStep (length m.ram) (length m.work) (Answer opcode n step) →
        Stays (answer reason m opcode n step)
    answer-held opcode n a.SendLengthLow h = on reason m fit same (Answer opcode n a.SendLengthHigh) (h.0, tt)
    answer-held opcode n a.SendLengthHigh h = on reason m fit same (Answer opcode n a.TakeGo) (h.0, tt)
    answer-held opcode n a.TakeGo h =
        λ b g. in-cond (Held m₀) (eqb b ack) _ _ (λ e. on reason m fit same (Answer opcode n (a.SendAnswer 0)) (h.0, h.0.some))
        (λ e. first-held reason m fit same not_acked)
    answer-held opcode n (a.SendAnswer place) h =
        let more = in-cond (SoundAnswer n) (ltb (place + 1) n) (a.SendAnswer (place + 1)) a.TakeCrcLow (λ e. ltb-true _ _ e) (λ e. tt) in
        on reason m fit same (showed opcode n (place + 1)) (h.0, more)
    answer-held opcode n a.TakeCrcLow h = λ b g. on reason m fit same (Answer opcode n (a.TakeCrcHigh b)) (h.0, tt)
    answer-held opcode n (a.TakeCrcHigh low) h =
        λ b g. in-cond (Held m₀) (eqb (paired low b) (crc16 n m.work)) _ _ (λ e. on reason m fit same (Answer opcode n a.SendAck) (h.0, tt))
        (λ e. refuses-held reason m fit same crc_differs)
    answer-held opcode n a.SendAck h = first-held reason m fit same reason

    does-held : (step : Step) → SoundStep (length m.ram) (length m.work) step → Stays (does_at reason m step)
    does-held (Greeting place) h =
        let next = cond (ltb (place + 1) 4) (Greeting (place + 1)) (Header TakeSoh) in
        let more =
        in-cond (SoundStep (length m.ram) (length m.work)) (ltb (place + 1) 4) (Greeting (place + 1)) (Header TakeSoh) (λ e. ltb-true _ _ e) (λ e. tt) in
        on reason m fit same next more
    does-held (Header step) h = header-held step
    does-held (Command opcode n step) h = command-held opcode n step h
    does-held (Answer opcode n step) h = answer-held opcode n step h
    does-held Refusal h = first-held reason m fit same reason
    does-held (Running address) h = tt

  pub stays-held : (Good : ℕ → Type 0) (s : State) → Held m₀ s → Leaves Good (λ _ t. Held m₀ t) [] s (does s)
  stays-held Good s h = does-held Good s s.reason s.mem h.ready.fitting h.same s.step h.ready.step_sound
