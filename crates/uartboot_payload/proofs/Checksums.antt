-- The payload's CRC, both bytes, the low one or the high one alone, is as many stores in the reply.
-- Assumes nothing.
use Prim.Native.Nat.{ℕ, ◌+◌, ◌<◌}
use native.Mathlib.Omega.{arith}
use mathlib.Core.Path.{◌≡◌, refl}
use mathlib.Core.List.{List}
use lib.ListN.{length, set}
use Rattle.numbers.specs.Number.{high_byte}
use Rattle.machine.specs.Steps.{Sent}
use Rattle.machine.specs.Word.{word_sent}
use Rattle.machine.specs.declared.step.Moved.{Moved}
use Rattle.machine.proofs.Bulks.{send-one}
use Rattle.machine.proofs.WordSends.{word-sends}
use Rattle.opcodes.specs.declared.Opcode.{Opcode}
use Rattle.memory.specs.Memories.{Memories}
use Rattle.uartboot_flow.specs.declared.step.Step.{Step}
use Rattle.uartboot_flow.specs.declared.step.Step.TheVariants.{Command}
use Rattle.uartboot_flow.specs.declared.step.CommandStep.TheVariants.{SendCrcLow, SendCrcHigh, TakeGo}
use Rattle.uartboot_flow.specs.State.{state}
use Rattle.uartboot_flow.specs.Flow.{crc16, does}
use Rattle.uartboot_flow.specs.Due.{due}
use Rattle.uartboot_flow.specs.Device.{device}

module _ (opcode : Opcode) (size reason : ℕ) (m : Memories) (old : List ℕ) (j : ℕ) where
  pub high-sent : (high : ℕ) → high ≡ high_byte (crc16 size m.work) → j < length old →
      Sent device (state (Command opcode size SendCrcHigh) reason m) j old 1 (state (Command opcode size TakeGo) reason m) (set old j high)
  high-sent high e h = send-one does due old j _ _ high (rw e refl) h

  pub crc-sent : (crc : ℕ) → crc ≡ crc16 size m.work → j < length old → (r : Moved Step) (reply : List ℕ) →
      (r, reply) ≡ word_sent crc (Command opcode size SendCrcHigh) (Command opcode size TakeGo) reason j old →
      Sent device (state (Command opcode size SendCrcLow) reason m) j old r.count (state r.step r.reason m) reply
  crc-sent crc e h r reply f =
      word-sends does due (λ s view. length view) (λ step why. state step why m) old j (state (Command opcode size SendCrcLow) reason m)
      (Command opcode size SendCrcHigh) (Command opcode size TakeGo) crc reason (rw e refl) (rw e refl) h r reply f
