-- Answer bytes taken one by one are one copy into the lent buffer; an answer's CRC, both bytes, the low one or the high one alone, is as
-- many stores in the output.
-- Assumes nothing.
use Prim.Native.Nat.{ℕ, ◌+◌, ◌<◌, ◌≤◌}
use native.Mathlib.Omega.{arith}
use mathlib.Core.Path.{◌≡◌, refl}
use mathlib.Core.List.{List, [], ◌∷◌}
use lib.ListN.{length, set}
use borrow.Author.Tests.{lt-ltb}
use Rattle.numbers.specs.Number.{high_byte}
use Rattle.memory.specs.Copy.{Copied}
use Rattle.machine.specs.Does.{takes}
use Rattle.machine.specs.Steps.{Taken, Sent}
use Rattle.machine.specs.Word.{word_sent}
use Rattle.machine.specs.declared.step.Moved.{Moved}
use Rattle.machine.proofs.Bulks.{all_taken, one-sent}
use Rattle.machine.proofs.WordSends.{word-sends}
use Rattle.host_command.specs.Exchange.{lent, awaited}
use Rattle.host_flow.specs.declared.step.Step.{Step}
use Rattle.host_flow.specs.declared.step.Step.TheVariants.{TakeAnswer, SendCrcLow, SendCrcHigh, TakeLastAck}
use Rattle.host_flow.specs.State.{State, state}
use Rattle.host_flow.specs.Flow.{answer_crc, collected, does}
use Rattle.host_flow.specs.Due.{due}
use Rattle.host_flow.specs.Host.{host}
use Rattle.host_turn.proofs.Ones.{taken}

module _ (opcode reason : ℕ) (payload : List ℕ) (size : ℕ) where
  -- with `count` of the answer's bytes in
  abbrev at : (answer : List ℕ) (count : ℕ) → State
  at answer count = state (collected size count) reason (lent opcode payload answer)

  module _ (answer : List ℕ) (is : awaited (lent opcode payload answer) ≡ size) where
    takes-next : (memory : List ℕ) (k : ℕ) → k < size → does (at memory k) ≡ takes (λ b. at (set memory k b) (k + 1))
    takes-next memory k h = rw (lt-ltb k size h, is) refl

    takes_all : (memory : List ℕ) (k b : ℕ) → k < size → taken (at memory k) (b ∷ []) ≡ 1
    takes_all memory k b h = rw (lt-ltb k size h) refl

    pub answer-taken : (input : List ℕ) (i : ℕ) (answer' : List ℕ) (place count : ℕ) → place < size → size ≤ length answer → i < length input →
        Copied input i answer place size answer' count → (next : Step) → next ≡ collected size (place + count) →
        Taken host input i (state (TakeAnswer place) reason (lent opcode payload answer)) count (state next reason (lent opcode payload answer'))
    answer-taken input i answer' place count inside fits h c next e =
        rw e (rw (lt-ltb place size inside) at (all_taken does due taken at size takes-next takes_all input i answer place fits count answer' inside h c))

    module _ (old : List ℕ) (j : ℕ) where
      pub high-sent : (high : ℕ) → high ≡ high_byte (answer_crc size answer) → j < length old →
          Sent host (state SendCrcHigh reason (lent opcode payload answer)) j old 1 (state TakeLastAck reason (lent opcode payload answer)) (set old j high)
      high-sent high e h = one-sent does due taken old j _ _ high (rw (e, is) refl) h

      pub crc-sent : (crc : ℕ) → crc ≡ answer_crc size answer → j < length old → (r : Moved Step) (output : List ℕ) →
          (r, output) ≡ word_sent crc SendCrcHigh TakeLastAck reason j old →
          Sent host (state SendCrcLow reason (lent opcode payload answer)) j old r.count (state r.step r.reason (lent opcode payload answer)) output
      crc-sent crc e h r output f =
          word-sends does due taken (λ step why. state step why (lent opcode payload answer)) old j (state SendCrcLow reason (lent opcode payload answer))
          SendCrcHigh TakeLastAck crc reason (rw (e, is) refl) (rw (e, is) refl) h r output f
