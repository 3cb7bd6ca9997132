-- A record that is read stands for a sound step, and a sound step's record is read as that step.
-- Assumes nothing.
use Rattle.std.specs.Prelude.{Option, Some, None}
use Prim.Native.Nat.{ℕ, ◌<◌}
use native.Mathlib.Omega.{arith}
use mathlib.Core.Path.{◌≡◌, refl, subst}
use mathlib.Core.Bool.{true, false, not}
use lib.Dec.{eqb, ltb}
use borrow.Author.Tests.{not-false, eqb-true, eqb-false, ltb-true, ltb-false, ne_eqb, lt-ltb, le-ltb}
use Rattle.wire.proofs.Tests.{in-cond}
use Rattle.wire.specs.Unit.{is_in_ram}
use Rattle.machine.specs.declared.Record.{Record}
use Rattle.opcodes.specs.declared.Opcode.{Opcode}
use Rattle.opcodes.specs.declared.Opcode.TheVariants.{Run}
use Rattle.opcodes.specs.Opcode.{opcode_number, opcode_of, has_length, has_answer}
use Rattle.command.specs.Payload.{Carried}
use Rattle.opcodes.proofs.Opcodes.{opcode-back}
use Rattle.command_execution.specs.Execution.{Answering}
use Rattle.uartboot_flow.specs.declared.step.Step.{Step}
use Rattle.uartboot_flow.specs.declared.step.Step.TheVariants.{Greeting, Header, Command, Answer, Refusal, Running}
use Rattle.uartboot_flow.specs.declared.step.HeaderStep.TheVariants.{TakeSoh, TakeOpcode, TakeLow, TakeHigh}
use Rattle.uartboot_flow.specs.declared.step.CommandStep.{CommandStep}
use Rattle.uartboot_flow.specs.declared.step.CommandStep.TheVariants.{SendAck, TakePayload, SendPayloadAck, SendCrcLow, SendCrcHigh, TakeGo}
use Rattle.uartboot_flow.specs.declared.step.AnswerStep.{AnswerStep}
use Rattle.uartboot_flow.specs.declared.step.AnswerStep.TheVariants as a
use Rattle.uartboot_flow.specs.Flow.{greeting_length}
use Rattle.uartboot_flow.specs.Fresh.{kind_number}
use Rattle.uartboot_flow.specs.Sound.{SoundStep, SoundCommand, SoundAnswer}
use Rattle.uartboot_record.specs.declared.Numbers.{Numbers}
use Rattle.uartboot_record.specs.Record.{fields, command_numbers, answer_numbers, numbers_of, written, places_of, plain_step, payload_step, command_in, answer_step, answer_in, running_in, with_opcode, phase_in, step_in, decoded_of}

module _ (ram work : ℕ) where
  abbrev InFound : Option Step → Type 0
  InFound (Some step) = SoundStep ram work step
  InFound None = Unit {0}

  -- the place is one of its phase's
  abbrev Placed : (phase size place : ℕ) → Type 0
  Placed phase size place = place < places_of phase size

  plain-step : (n : Numbers) → Placed n.phase n.length n.place → SoundStep ram work (plain_step n)
  plain-step n p =
      let k = n.phase in
      in-cond (SoundStep ram work) (eqb k 0) _ _ (λ e. rw (eqb-true k 0 e) at p) (λ e.
      in-cond (SoundStep ram work) (eqb k 1) _ _ (λ e. tt) (λ e.
      in-cond (SoundStep ram work) (eqb k 2) _ _ (λ e. tt) (λ e.
      in-cond (SoundStep ram work) (eqb k 3) _ _ (λ e. tt) (λ e. tt))))

  payload-step : (k n p : ℕ) → Placed k n p → 0 < n → SoundCommand n (payload_step k p)
  payload-step k n p l some =
      in-cond (SoundCommand n) (eqb k 6) _ _ (λ e. rw (eqb-true k 6 e) at l) (λ e.
      in-cond (SoundCommand n) (eqb k 7) _ _ (λ e. some) (λ e.
      in-cond (SoundCommand n) (eqb k 8) _ _ (λ e. some) (λ e.
      in-cond (SoundCommand n) (eqb k 9) _ _ (λ e. some) (λ e. some))))

  command-in : (opcode : Opcode) (n : Numbers) → Placed n.phase n.length n.place → InFound (command_in work opcode n)
  command-in opcode n p =
      in-cond InFound (not (has_length opcode n.length)) _ _ (λ e. tt) (λ has.
      in-cond InFound (ltb work n.length) _ _ (λ e. tt) (λ fits.
      let h : Carried opcode n.length work = record { has_length = not-false _ has; in_work = ltb-false _ _ fits } in
      in-cond InFound (eqb n.phase 5) _ _ (λ e. (h, tt)) (λ e.
      in-cond InFound (eqb n.length 0) _ _ (λ e. tt) (λ some.
      (h, payload-step n.phase n.length n.place p (omega (arith, eqb-false n.length 0 some)))))))

  answer-step : (k n p l : ℕ) → Placed k n p → SoundAnswer n (answer_step k p l)
  answer-step k n p l h =
      in-cond (SoundAnswer n) (eqb k 11) _ _ (λ e. tt) (λ e.
      in-cond (SoundAnswer n) (eqb k 12) _ _ (λ e. tt) (λ e.
      in-cond (SoundAnswer n) (eqb k 13) _ _ (λ e. tt) (λ e.
      in-cond (SoundAnswer n) (eqb k 14) _ _ (λ e. rw (eqb-true k 14 e) at h) (λ e.
      in-cond (SoundAnswer n) (eqb k 15) _ _ (λ e. tt) (λ e.
      in-cond (SoundAnswer n) (eqb k 16) _ _ (λ e. tt) (λ e. tt))))))

  answer-in : (opcode : Opcode) (n : Numbers) → Placed n.phase n.length n.place → InFound (answer_in work opcode n)
  answer-in opcode n p =
      in-cond InFound (not (has_answer opcode)) _ _ (λ e. tt) (λ has.
      in-cond InFound (eqb n.length 0) _ _ (λ e. tt) (λ some.
      in-cond InFound (ltb work n.length) _ _ (λ e. tt) (λ fits.
      let h : Answering opcode n.length work =
      record { has_answer = not-false _ has; some = omega (arith, eqb-false n.length 0 some); in_work = ltb-false _ _ fits } in
      (h, answer-step n.phase n.length n.place n.held p))))

  running-in : (opcode address : ℕ) → InFound (running_in ram opcode address)
  running-in opcode address =
      in-cond InFound (not (eqb opcode (opcode_number Run))) _ _ (λ e. tt) (λ e.
      in-cond InFound (is_in_ram (record { 0 = address }) ram) _ _ (λ inside. inside) (λ e. tt))

  opcode-in : (found : Option Opcode) (n : Numbers) → Placed n.phase n.length n.place → InFound (with_opcode work found n)
  opcode-in None n p = tt
  opcode-in (Some opcode) n p = in-cond InFound (ltb n.phase 11) _ _ (λ e. command-in opcode n p) (λ e. answer-in opcode n p)

  phase-in : (n : Numbers) → Placed n.phase n.length n.place → InFound (phase_in ram work n)
  unfolding phase_in
  phase-in n p =
      in-cond InFound (ltb n.phase 5) _ _ (λ e. plain-step n p) (λ e.
      in-cond InFound (eqb n.phase 18) _ _ (λ e. tt) (λ e.
      in-cond InFound (eqb n.phase 19) _ _ (λ e. running-in n.opcode n.held) (λ e.
      in-cond InFound (ltb 17 n.phase) _ _ (λ e. tt) (λ e. opcode-in (opcode_of n.opcode) n p))))

  step-in : (n : Numbers) → InFound (step_in ram work n)
  unfolding step_in
  step-in n =
      in-cond InFound (ltb n.place (places_of n.phase n.length)) _ _ (λ e. phase-in n (ltb-true _ _ e)) (λ e. tt)

  record-in : (r : Record) → InFound (decoded_of ram work r)
  unfolding decoded_of
  record-in r =
      in-cond InFound (not (eqb r.kind kind_number)) _ _ (λ e. tt)
      (λ e. step-in (fields r.phase r.opcode r.length r.place r.held))

  -- a record that is read stands for a sound step
  pub decoded-sound : (r : Record) (s : Step) → decoded_of ram work r ≡ Some s → SoundStep ram work s
  decoded-sound r s e = subst InFound e (record-in r)

  nonzero : (n : ℕ) → 0 < n → eqb n 0 ≡ false
  nonzero n some = ne_eqb n 0 (λ e. let z : ⊥ = omega (arith, some) in z)

  -- after the tests on a command, and on an answer
  payload-back : (opcode : Opcode) (k n p : ℕ) → eqb k 5 ≡ false → ltb k 11 ≡ true → Carried opcode n work → 0 < n
      → with_opcode work (opcode_of (opcode_number opcode)) (fields k (opcode_number opcode) n p 0) ≡ Some (Command opcode n (payload_step k p))
  payload-back opcode k n p behind before h some =
      rw (opcode-back opcode, before, h.has_length, le-ltb work n h.in_work, behind, nonzero n some)

  answering-back : (opcode : Opcode) (k n p l : ℕ) → ltb k 11 ≡ false → Answering opcode n work
      → with_opcode work (opcode_of (opcode_number opcode)) (fields k (opcode_number opcode) n p l)
      ≡ Some (Answer opcode n (answer_step k p l))
  answering-back opcode k n p l behind h =
      rw (opcode-back opcode, behind, h.has_answer, nonzero n h.some, le-ltb work n h.in_work)

  -- every sound step is read back from its numbers
  command-back : (opcode : Opcode) (n : ℕ) (step : CommandStep) → Carried opcode n work → SoundCommand n step
      → step_in ram work (command_numbers (opcode_number opcode) n step) ≡ Some (Command opcode n step)
  unfolding step_in phase_in
  command-back opcode n SendAck h s = rw (opcode-back opcode, h.has_length, le-ltb work n h.in_work) refl
  command-back opcode n (TakePayload p) h s = rw (lt-ltb p n s) (payload-back opcode 6 n p refl refl h (omega (arith, s)))
  command-back opcode n SendPayloadAck h s = payload-back opcode 7 n 0 refl refl h s
  command-back opcode n SendCrcLow h s = payload-back opcode 8 n 0 refl refl h s
  command-back opcode n SendCrcHigh h s = payload-back opcode 9 n 0 refl refl h s
  command-back opcode n TakeGo h s = payload-back opcode 10 n 0 refl refl h s

  answer_back : (opcode : Opcode) (n : ℕ) (step : AnswerStep) → Answering opcode n work → SoundAnswer n step
      → step_in ram work (answer_numbers (opcode_number opcode) n step) ≡ Some (Answer opcode n step)
  unfolding step_in phase_in
  answer_back opcode n a.SendLengthLow h s = answering-back opcode 11 n 0 0 refl h
  answer_back opcode n a.SendLengthHigh h s = answering-back opcode 12 n 0 0 refl h
  answer_back opcode n a.TakeGo h s = answering-back opcode 13 n 0 0 refl h
  answer_back opcode n (a.SendAnswer p) h s = rw (lt-ltb p n s) (answering-back opcode 14 n p 0 refl h)
  answer_back opcode n a.TakeCrcLow h s = answering-back opcode 15 n 0 0 refl h
  answer_back opcode n (a.TakeCrcHigh low) h s = answering-back opcode 16 n 0 low refl h
  answer_back opcode n a.SendAck h s = answering-back opcode 17 n 0 0 refl h

  step_back : (s : Step) → SoundStep ram work s → step_in ram work (numbers_of s) ≡ Some s
  unfolding step_in phase_in
  step_back (Greeting p) h = rw (lt-ltb p greeting_length h) refl
  step_back (Header TakeSoh) h = refl
  step_back (Header TakeOpcode) h = refl
  step_back (Header (TakeLow opcode)) h = refl
  step_back (Header (TakeHigh opcode low)) h = refl
  step_back (Command opcode n step) h = command-back opcode n step h.0 h.1
  step_back (Answer opcode n step) h = answer_back opcode n step h.0 h.1
  step_back Refusal h = refl
  step_back (Running address) h = rw h refl

  -- and from its record
  pub reads_back : (s : Step) (reason : ℕ) → SoundStep ram work s → decoded_of ram work (written s reason) ≡ Some s
  unfolding decoded_of written
  reads_back s reason h = step_back s h
