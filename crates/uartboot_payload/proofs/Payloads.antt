-- Payload bytes taken one by one are one copy into the work buffer.
-- Assumes nothing.
use Prim.Native.Nat.{ℕ, ◌+◌, ◌<◌, ◌≤◌}
use mathlib.Core.Path.{◌≡◌, refl}
use mathlib.Core.List.{List}
use lib.ListN.{length, set}
use borrow.Author.Tests.{lt-ltb}
use Rattle.memory.specs.Copy.{Copied}
use Rattle.machine.specs.Does.{takes}
use Rattle.machine.specs.Steps.{Taken}
use Rattle.machine.proofs.Bulks.{bulk-taken}
use Rattle.opcodes.specs.declared.Opcode.{Opcode}
use Rattle.memory.specs.Memories.{memories}
use Rattle.uartboot_flow.specs.declared.step.Step.TheVariants.{Command}
use Rattle.uartboot_flow.specs.declared.step.CommandStep.TheVariants.{TakePayload}
use Rattle.uartboot_flow.specs.State.{State, state}
use Rattle.uartboot_flow.specs.Flow.{arrived, does}
use Rattle.uartboot_flow.specs.Due.{due}
use Rattle.uartboot_flow.specs.Device.{device}

module _ (opcode : Opcode) (size reason : ℕ) (ram flash : List ℕ) where
  -- with `count` of the payload's bytes in
  abbrev at : (work : List ℕ) (count : ℕ) → State
  at work count = arrived reason (memories ram flash work) opcode size count

  takes-next : (work : List ℕ) (k : ℕ) → k < size → does (at work k) ≡ takes (λ b. at (set work k b) (k + 1))
  takes-next work k h = rw (lt-ltb k size h) refl

  pub payload-taken : (input : List ℕ) (i : ℕ) (work work' : List ℕ) (place count : ℕ) → place < size → size ≤ length work → i < length input →
      Copied input i work place size work' count → (t : State) → t ≡ arrived reason (memories ram flash work') opcode size (place + count) →
      Taken device input i (state (Command opcode size (TakePayload place)) reason (memories ram flash work)) count t
  payload-taken input i work work' place count inside fits h c t e =
      rw e (rw (lt-ltb place size inside) at (bulk-taken does due at size takes-next input i work place fits count work' inside h c))
