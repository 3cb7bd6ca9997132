-- The device's runs along the joined line, piece by piece, with a tally of its executions.
-- Assumes nothing.
use Prim.Native.Nat.{ℕ, ◌+◌, ◌≤◌, ◌<◌}
use native.Mathlib.Omega.{arith}
use mathlib.Core.Path.{◌≡◌, refl, ap, subst}
use mathlib.Core.Bool.{true, cond}
use mathlib.Core.List.{List, [], ◌∷◌, append-nil}
use lib.Dec.{eqb}
use lib.ListN.{length, take, drop, get_or, set}
use lib.Seq.{take_at, get_or-take, length-take-le}
use borrow.Author.Tests.{lt-ltb, le-ltb, ne_eqb}
use Rattle.wire.specs.Line.{soh, ack, nak}
use Rattle.numbers.specs.Number.{paired, low_byte, high_byte, bytes_of}
use Rattle.crc.specs.Rule.{rule16}
use Rattle.crc.specs.Crc.{crc_of}
use Rattle.memory.specs.Memories.{Memories, memories}
use Rattle.machine.specs.Machine as machine
use Rattle.machine.specs.Machine.{Machine}
use Rattle.opcodes.specs.declared.Opcode.{Opcode}
use Rattle.opcodes.specs.Opcode.{opcode_number, opcode_of, has_length}
use Rattle.opcodes.proofs.Opcodes.{opcode-back}
use Rattle.uartboot_flow.specs.declared.step.Step.TheVariants.{Greeting, Header, Command, Answer, Refusal}
use Rattle.uartboot_flow.specs.declared.step.HeaderStep.TheVariants.{TakeSoh}
use Rattle.uartboot_flow.specs.declared.step.CommandStep.TheVariants.{SendAck, TakePayload, SendPayloadAck, TakeGo}
use Rattle.uartboot_flow.specs.declared.step.AnswerStep.TheVariants as a
use Rattle.uartboot_flow.specs.State.{State, state}
use Rattle.uartboot_flow.specs.Flow.{long_payload, crc16, executes, headed, checked_with, arrived, after_ack, hosted, showed}
use Rattle.uartboot_flow.specs.Device.{device}
use Rattle.joining.specs.Goes.{Goes, rests, takes, sends}
use Rattle.joining.proofs.Goings.{via, till, goes_on, sends-list, takes-list}
use Rattle.joining.proofs.Tallies.{Tallied, tallied, tallying}
use Rattle.joined.specs.Traffic.{greeting_bytes}
use Rattle.joined.specs.Accepted.{brought, against}
use Rattle.joined.specs.Executions.{is_execution}
use Rattle.joined.proofs.Pairs.{paired-back, crc-fits, same-eqb}

-- the device, with a tally of its executions
abbrev pub counting : Machine ℕ (Tallied State)
counting = tallying is_execution device

abbrev pub now : (done : ℕ) → State → Tallied State
now done s = tallied s done

pub greets : (done reason : ℕ) (m : Memories) → Goes counting (now done (state (Greeting 0) reason m)) [] greeting_bytes (now done (state (Header TakeSoh) reason m))
greets done reason m = sends refl refl (sends refl refl (sends refl refl (sends refl refl rests)))

-- 15 and the greeting
pub refuses : (done why : ℕ) (m : Memories) → Goes counting (now done (state Refusal why m)) [] (nak ∷ greeting_bytes) (now done (state (Header TakeSoh) why m))
refuses done why m = sends refl refl (greets done why m)

module _ (opcode : Opcode) (m : Memories) where
  -- the header is taken
  module _ (n : ℕ) (small : n < 65536) where
    heads : (t : State) → headed 0 m (opcode_of (opcode_number opcode)) n ≡ t →
        Goes counting (now 0 (state (Header TakeSoh) 0 m)) (soh ∷ opcode_number opcode ∷ bytes_of 2 n) [] (now 0 t)
    heads t e = takes refl refl refl (takes refl refl refl (takes refl refl refl (takes refl refl refl (via counting (ap (now 0) came) rests))))
      where
        came : headed 0 m (opcode_of (opcode_number opcode)) (paired (low_byte n) (high_byte n)) ≡ t
        came = rw (paired-back n small) e

    pub heads-on : has_length opcode n ≡ true → n ≤ length m.work →
        Goes counting (now 0 (state (Header TakeSoh) 0 m)) (soh ∷ opcode_number opcode ∷ bytes_of 2 n) [] (now 0 (state (Command opcode n SendAck) 0 m))
    heads-on has fits = heads _ (rw (opcode-back opcode, has, le-ltb (length m.work) n fits) refl)

    pub heads-long : has_length opcode n ≡ true → length m.work < n →
        Goes counting (now 0 (state (Header TakeSoh) 0 m)) (soh ∷ opcode_number opcode ∷ bytes_of 2 n) [] (now 0 (state Refusal long_payload m))
    heads-long has long = heads _ (rw (opcode-back opcode, has, lt-ltb (length m.work) n long) refl)

  -- without payload its 06 is sent and it is executed
  pub at_once : Goes counting (now 0 (state (Command opcode 0 SendAck) 0 m)) [] (ack ∷ []) (now 1 (executes 0 m opcode 0))
  at_once = sends refl refl rests

  -- with one it is taken
  pub at_first : (n : ℕ) → 0 < n → Goes counting (now 0 (state (Command opcode n SendAck) 0 m)) [] (ack ∷ []) (now 0 (state (Command opcode n (TakePayload 0)) 0 m))
  at_first n some = till counting (sends refl refl rests) more
    where
      more : tallied (after_ack 0 m opcode n) (cond (eqb n 0) 1 0) ≡ now 0 (state (Command opcode n (TakePayload 0)) 0 m)
      more = rw (ne_eqb n 0 (λ e. omega arith)) refl

  module _ (payload : List ℕ) (some : 0 < length payload) (fits : length payload ≤ length m.work) where
    abbrev at : ℕ → List ℕ → Tallied State
    at p work = now 0 (arrived 0 (memories m.ram m.flash work) opcode (length payload) p)

    -- all of it, and then its checks
    takes-payload : (t : State) → checked_with 0 (brought payload m) (against opcode payload m) opcode (length payload) ≡ t →
        Goes counting (now 0 (state (Command opcode (length payload) (TakePayload 0)) 0 m)) payload [] (now 0 t)
    takes-payload t e = via counting (ap (now 0) begins) (till counting (takes-list counting payload at one m.work fits) (ap (now 0) last))
      where
        begins : state (Command opcode (length payload) (TakePayload 0)) 0 m ≡ arrived 0 m opcode (length payload) 0
        begins = rw (lt-ltb 0 (length payload) some) refl

        last : arrived 0 (brought payload m) opcode (length payload) (length payload) ≡ t
        last = rw (le-ltb (length payload) (length payload) (omega arith)) e

        one : (p : ℕ) (work : List ℕ) (b : ℕ) → p < length payload → (counting.need (at p work) ≡ machine.take_one) × (counting.takes (at p work) (b ∷ []) ≡ 1)
            × (counting.says (at p work) (b ∷ []) ≡ []) × (counting.after (at p work) (b ∷ []) ≡ at (p + 1) (set work p b))
        one p work b h = rw (lt-ltb p (length payload) h) (refl, refl, refl, refl)

    crc-is : crc16 (length payload) (brought payload m).work ≡ crc_of rule16 payload
    unfolding crc16
    crc-is = rw (take_at payload (drop (length payload) m.work) (length payload) refl) refl

    pub at-payload : against opcode payload m ≡ 0 →
        Goes counting (now 0 (state (Command opcode (length payload) (TakePayload 0)) 0 m)) payload (ack ∷ bytes_of 2 (crc_of rule16 payload))
        (now 0 (state (Command opcode (length payload) TakeGo) 0 (brought payload m)))
    at-payload passes =
        subst (λ (l : List ℕ). Goes counting (now 0 (state (Command opcode (length payload) (TakePayload 0)) 0 m)) l (ack ∷ bytes_of 2 (crc_of rule16 payload))
        (now 0 (state (Command opcode (length payload) TakeGo) 0 (brought payload m)))) (append-nil payload)
        (goes_on counting (takes-payload (state (Command opcode (length payload) SendPayloadAck) 0 (brought payload m)) (rw passes refl)) checksum)
      where
        checksum : Goes counting (now 0 (state (Command opcode (length payload) SendPayloadAck) 0 (brought payload m))) [] (ack ∷ bytes_of 2 (crc_of rule16 payload))
            (now 0 (state (Command opcode (length payload) TakeGo) 0 (brought payload m)))
        checksum =
            subst (λ (x : ℕ). Goes counting (now 0 (state (Command opcode (length payload) SendPayloadAck) 0 (brought payload m))) [] (ack ∷ bytes_of 2 x)
            (now 0 (state (Command opcode (length payload) TakeGo) 0 (brought payload m)))) crc-is
            (sends refl refl (sends refl refl (sends refl refl rests)))

    pub at-payload-refused : (against opcode payload m ≡ 0 → ⊥) →
        Goes counting (now 0 (state (Command opcode (length payload) (TakePayload 0)) 0 m)) payload (nak ∷ greeting_bytes)
        (now 0 (state (Header TakeSoh) (against opcode payload m) (brought payload m)))
    at-payload-refused fails =
        subst (λ (l : List ℕ). Goes counting (now 0 (state (Command opcode (length payload) (TakePayload 0)) 0 m)) l (nak ∷ greeting_bytes)
        (now 0 (state (Header TakeSoh) (against opcode payload m) (brought payload m)))) (append-nil payload)
        (goes_on counting (takes-payload (state Refusal (against opcode payload m) (brought payload m)) (rw (ne_eqb _ _ fails) refl))
        (refuses 0 (against opcode payload m) (brought payload m)))

  -- the host's 06 is taken and it is executed
  pub at-go : (n : ℕ) → Goes counting (now 0 (state (Command opcode n TakeGo) 0 m)) (ack ∷ []) [] (now 1 (executes 0 m opcode n))
  at-go n = takes refl refl refl rests

  -- an answer of n bytes
  pub at_length : (n : ℕ) → Goes counting (now 1 (state (Answer opcode n a.SendLengthLow) 0 m)) [] (bytes_of 2 n) (now 1 (state (Answer opcode n a.TakeGo) 0 m))
  at_length n = sends refl refl (sends refl refl rests)

  module _ (n : ℕ) (some : 0 < n) (fits : n ≤ length m.work) where
    abbrev bytes : List ℕ
    bytes = take n m.work

    abbrev sending : ℕ → Tallied State
    sending p = now 1 (state (showed opcode n p) 0 m)

    pub at-answer : Goes counting (now 1 (state (Answer opcode n a.TakeGo) 0 m)) (ack ∷ []) (take n m.work) (now 1 (state (Answer opcode n a.TakeCrcLow) 0 m))
    at-answer = takes refl refl refl (via counting begins (till counting (sends-list counting bytes sending one) last))
      where
        is-n : length bytes ≡ n
        is-n = length-take-le n m.work fits

        begins : now 1 (state (Answer opcode n (a.SendAnswer 0)) 0 m) ≡ sending 0
        begins = rw (lt-ltb 0 n some) refl

        last : sending (length bytes) ≡ now 1 (state (Answer opcode n a.TakeCrcLow) 0 m)
        last = rw (is-n, le-ltb n n (omega arith)) refl

        one : (p : ℕ) → p < length bytes → (counting.need (sending p) ≡ machine.send_one) × (counting.says (sending p) [] ≡ get_or bytes p 0 ∷ [])
            × (counting.after (sending p) [] ≡ sending (p + 1))
        one p h = let inside : p < n = omega (arith, is-n, h) in rw (lt-ltb p n inside, get_or-take n m.work p 0 inside) (refl, refl, refl)

    pub at_last : Goes counting (now 1 (state (Answer opcode n a.TakeCrcLow) 0 m)) (bytes_of 2 (crc_of rule16 (take n m.work))) (ack ∷ greeting_bytes)
        (now 1 (state (Header TakeSoh) 0 m))
    unfolding crc16
    at_last = takes refl refl refl (takes refl refl refl (via counting (ap (now 1) right) (sends refl refl (greets 1 0 m))))
      where
        crc : ℕ
        crc = crc_of rule16 bytes

        right : hosted 0 m opcode n (paired (low_byte crc) (high_byte crc)) ≡ state (Answer opcode n a.SendAck) 0 m
        right = rw (paired-back crc (crc-fits bytes), same-eqb crc) refl
