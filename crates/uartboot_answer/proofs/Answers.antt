-- Answer bytes sent one by one are one copy into the reply.
-- Assumes nothing.
use Prim.Native.Nat.{ℕ, ◌+◌, ◌-◌, ◌<◌, ◌≤◌, min}
use native.Mathlib.Omega.{arith}
use mathlib.Core.Path.{◌≡◌, refl}
use mathlib.Core.List.{List}
use lib.ListN.{length, get_or, take}
use lib.Seq.{length-take-le}
use borrow.Author.Tests.{lt-ltb}
use Rattle.memory.specs.Copy.{Copied}
use Rattle.machine.specs.Does.{sends}
use Rattle.machine.specs.Steps.{Sent}
use Rattle.machine.proofs.Bulks.{bulk-sent}
use Rattle.opcodes.specs.declared.Opcode.{Opcode}
use Rattle.memory.specs.Memories.{memories}
use Rattle.uartboot_flow.specs.declared.step.Step.{Step}
use Rattle.uartboot_flow.specs.declared.step.Step.TheVariants.{Answer}
use Rattle.uartboot_flow.specs.declared.step.AnswerStep.TheVariants.{SendAnswer}
use Rattle.uartboot_flow.specs.State.{State, state}
use Rattle.uartboot_flow.specs.Flow.{showed, does}
use Rattle.uartboot_flow.specs.Due.{due}
use Rattle.uartboot_flow.specs.Device.{device}

-- no more bytes of an answer are shown than it has
pub shown-few : (size place : ℕ) (work old : List ℕ) (j end count : ℕ) (reply : List ℕ) → Copied (take size work) place old j end reply count →
    size ≤ length work → count ≤ size - place
shown-few size place work old j end count reply c fits =
    let k : length (take size work) ≡ size = length-take-le size work fits in
    let x : count ≡ min (end - j) (length (take size work) - place) = c.count_is in
    omega arith

module _ (opcode : Opcode) (size reason : ℕ) (ram flash work : List ℕ) where
  -- with `count` of the answer's bytes sent
  abbrev at : (count : ℕ) → State
  at count = state (showed opcode size count) reason (memories ram flash work)

  sends-next : (k : ℕ) → k < size → does (at k) ≡ sends (get_or work k 0) (at (k + 1))
  sends-next k h = rw (lt-ltb k size h) refl

  pub answer-sent : (old : List ℕ) (j place count : ℕ) (reply : List ℕ) → place < size → size ≤ length work → j < length old →
      Copied (take size work) place old j (length old) reply count → (next : Step) → next ≡ showed opcode size (place + count) →
      Sent device (state (Answer opcode size (SendAnswer place)) reason (memories ram flash work)) j old count (state next reason (memories ram flash work)) reply
  answer-sent old j place count reply inside fits h c next e =
      rw e (rw (lt-ltb place size inside) at (bulk-sent does due at size work sends-next old j place fits count reply inside h c))
