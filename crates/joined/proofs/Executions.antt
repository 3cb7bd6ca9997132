-- Which actions of the device execute a command.
-- Assumes nothing.
use Rattle.std.specs.Prelude.{Option, Some, None}
use Prim.Native.Nat.{ℕ, ◌+◌}
use mathlib.Core.Path.{◌≡◌, refl}
use mathlib.Core.Bool.{false, not}
use mathlib.Core.List.{List, [], ◌∷◌}
use lib.Dec.{eqb, ltb}
use lib.ListN.{length}
use Rattle.wire.specs.Line.{ack}
use Rattle.wire.proofs.Tests.{in-cond}
use Rattle.numbers.specs.Number.{paired}
use Rattle.memory.specs.Memories.{Memories}
use Rattle.opcodes.specs.declared.Opcode.{Opcode}
use Rattle.opcodes.specs.Opcode.{opcode_of, has_length}
use Rattle.command.specs.Payload.{command_of}
use Rattle.command_execution.specs.Execution.{checked}
use Rattle.uartboot_flow.specs.declared.step.Step.{Step}
use Rattle.uartboot_flow.specs.declared.step.Step.TheVariants.{Greeting, Header, Command, Answer, Refusal, Running}
use Rattle.uartboot_flow.specs.declared.step.HeaderStep.TheVariants.{TakeSoh, TakeOpcode, TakeLow, TakeHigh}
use Rattle.uartboot_flow.specs.declared.step.CommandStep.TheVariants.{SendAck, TakePayload, SendPayloadAck, SendCrcLow, SendCrcHigh, TakeGo}
use Rattle.uartboot_flow.specs.declared.step.AnswerStep.TheVariants as a
use Rattle.uartboot_flow.specs.State.{State, state}
use Rattle.uartboot_flow.specs.Flow.{crc16, headed, checked_with, arrived, stored}
use Rattle.uartboot_flow.specs.Device.{device}
use Rattle.joined.specs.Executions.{executes_in, ExecutionsAre}

-- RAM and flash as in m
abbrev Same : Memories → State → Type 0
Same m t = (t.mem.ram ≡ m.ram) × (t.mem.flash ≡ m.flash)

heads : (reason size : ℕ) (m : Memories) (l : Option Opcode) → Same m (headed reason m l size)
heads reason size m None = (refl, refl)
heads reason size m (Some opcode) =
    in-cond (Same m) (not (has_length opcode size)) _ _ (λ t. (refl, refl)) (λ t.
    in-cond (Same m) (ltb (length m.work) size) _ _ (λ u. (refl, refl)) (λ u. (refl, refl)))

checks : (reason why size : ℕ) (m : Memories) (opcode : Opcode) → Same m (checked_with reason m why opcode size)
checks reason why size m opcode = in-cond (Same m) (eqb why 0) _ _ (λ t. (refl, refl)) (λ t. (refl, refl))

arrives : (reason size count : ℕ) (m : Memories) (opcode : Opcode) → Same m (arrived reason m opcode size count)
arrives reason size count m opcode =
    in-cond (Same m) (ltb count size) _ _ (λ t. (refl, refl)) (λ t. checks reason (checked (command_of opcode size m.work) m) size m opcode)

no_others : (reason : ℕ) (m : Memories) (step : Step) (view : List ℕ) → executes_in step view ≡ false → Same m (device.after (state step reason m) view)
no_others reason m (Greeting place) [] e = (refl, refl)
no_others reason m (Greeting place) (b ∷ view) e = (refl, refl)
no_others reason m (Header TakeSoh) [] e = (refl, refl)
no_others reason m (Header TakeSoh) (b ∷ view) e = (refl, refl)
no_others reason m (Header TakeOpcode) [] e = (refl, refl)
no_others reason m (Header TakeOpcode) (b ∷ view) e = (refl, refl)
no_others reason m (Header (TakeLow opcode)) [] e = (refl, refl)
no_others reason m (Header (TakeLow opcode)) (b ∷ view) e = (refl, refl)
no_others reason m (Header (TakeHigh opcode low)) [] e = (refl, refl)
no_others reason m (Header (TakeHigh opcode low)) (b ∷ view) e = heads reason (paired low b) m (opcode_of opcode)
no_others reason m (Command opcode size SendAck) [] e = rw e (refl, refl)
no_others reason m (Command opcode size SendAck) (b ∷ view) e = (refl, refl)
no_others reason m (Command opcode size (TakePayload place)) [] e = (refl, refl)
no_others reason m (Command opcode size (TakePayload place)) (b ∷ view) e = arrives reason size (place + 1) (stored place b m) opcode
no_others reason m (Command opcode size SendPayloadAck) [] e = (refl, refl)
no_others reason m (Command opcode size SendPayloadAck) (b ∷ view) e = (refl, refl)
no_others reason m (Command opcode size SendCrcLow) [] e = (refl, refl)
no_others reason m (Command opcode size SendCrcLow) (b ∷ view) e = (refl, refl)
no_others reason m (Command opcode size SendCrcHigh) [] e = (refl, refl)
no_others reason m (Command opcode size SendCrcHigh) (b ∷ view) e = (refl, refl)
no_others reason m (Command opcode size TakeGo) [] e = (refl, refl)
no_others reason m (Command opcode size TakeGo) (b ∷ view) e = rw e (refl, refl)
no_others reason m (Answer opcode size a.SendLengthLow) [] e = (refl, refl)
no_others reason m (Answer opcode size a.SendLengthLow) (b ∷ view) e = (refl, refl)
no_others reason m (Answer opcode size a.SendLengthHigh) [] e = (refl, refl)
no_others reason m (Answer opcode size a.SendLengthHigh) (b ∷ view) e = (refl, refl)
no_others reason m (Answer opcode size a.TakeGo) [] e = (refl, refl)
no_others reason m (Answer opcode size a.TakeGo) (b ∷ view) e = in-cond (Same m) (eqb b ack) _ _ (λ t. (refl, refl)) (λ t. (refl, refl))
no_others reason m (Answer opcode size (a.SendAnswer place)) [] e = (refl, refl)
no_others reason m (Answer opcode size (a.SendAnswer place)) (b ∷ view) e = (refl, refl)
no_others reason m (Answer opcode size a.TakeCrcLow) [] e = (refl, refl)
no_others reason m (Answer opcode size a.TakeCrcLow) (b ∷ view) e = (refl, refl)
no_others reason m (Answer opcode size (a.TakeCrcHigh low)) [] e = (refl, refl)
no_others reason m (Answer opcode size (a.TakeCrcHigh low)) (b ∷ view) e = in-cond (Same m) (eqb (paired low b) (crc16 size m.work)) _ _ (λ t. (refl, refl)) (λ t. (refl, refl))
no_others reason m (Answer opcode size a.SendAck) [] e = (refl, refl)
no_others reason m (Answer opcode size a.SendAck) (b ∷ view) e = (refl, refl)
no_others reason m Refusal [] e = (refl, refl)
no_others reason m Refusal (b ∷ view) e = (refl, refl)
no_others reason m (Running address) [] e = (refl, refl)
no_others reason m (Running address) (b ∷ view) e = (refl, refl)

pub executions-are : ExecutionsAre
executions-are =
    record {
      sent_ack = λ opcode size reason m e. rw e refl;
      took_go = λ opcode size reason byte m e. rw e refl;
      no_others = λ s view e. no_others s.reason s.mem s.step view e;
    }
