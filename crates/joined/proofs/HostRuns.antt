-- The host's runs along the joined line, piece by piece.
-- Assumes nothing.
use Prim.Native.Nat.{ℕ, ◌+◌, ◌≤◌, ◌<◌}
use native.Mathlib.Omega.{arith}
use mathlib.Core.Path.{◌≡◌, refl, subst}
use mathlib.Core.Bool.{Bool, true, false, cond, not, ◌&&◌}
use mathlib.Core.List.{List, [], ◌∷◌, append-nil}
use lib.Dec.{eqb}
use lib.ListN.{length, drop, get_or, set}
use lib.Seq.{take_at}
use borrow.Author.Tests.{lt-ltb, le-ltb, eq-eqb, ne_eqb}
use Rattle.wire.specs.Line.{soh, ack, nak}
use Rattle.numbers.specs.Number.{paired, low_byte, high_byte, bytes_of}
use Rattle.crc.specs.Rule.{rule16}
use Rattle.crc.specs.Crc.{crc_of}
use Rattle.memory.specs.Store.{laid}
use Rattle.machine.specs.Machine as machine
use Rattle.joining.specs.Goes.{Goes, rests, takes, sends}
use Rattle.joining.proofs.Goings.{via, till, goes_on, sends-list, takes-list}
use Rattle.host_command.specs.Exchange.{Lent, lent, exchange_of, exchange, awaited}
use Rattle.host_flow.specs.declared.step.Step.TheVariants.{TakeHeaderAck, SendPayload, TakePayloadAck, SendGo, TakeLengthLow, TakeLengthHigh, SendAnswerGo, TakeAnswer, SendCrcLow, TakeLastAck, Over}
use Rattle.host_flow.specs.State.{State, state}
use Rattle.host_flow.specs.Flow.{device_refused, payload_crc, answer_crc, behind, paid, collected, crc_came, length_began, length_came}
use Rattle.host_flow.specs.Host.{host}
use Rattle.host_flow.specs.Fresh.{fresh}
use Rattle.joined.specs.Traffic.{greeting_bytes}
use Rattle.joined.proofs.Pairs.{paired-back, crc-fits, same-eqb}

and-not : (b : Bool) → (b && not true) ≡ false
and-not true = refl
and-not false = refl

module _ (c : Lent) where
  pub at-header : Goes host (fresh c) greeting_bytes (soh ∷ c.opcode ∷ bytes_of 2 (length c.payload)) (state TakeHeaderAck 0 c)
  unfolding exchange_of
  at-header =
      takes refl refl refl (takes refl refl refl (takes refl refl refl (takes refl refl refl
      (sends refl refl (sends refl refl (sends refl refl (sends refl refl rests)))))))

  -- without payload
  pub at_once : length c.payload ≡ 0 → Goes host (state TakeHeaderAck 0 c) (ack ∷ []) [] (state (behind (exchange c).follows) 0 c)
  unfolding exchange_of
  at_once e = till host (takes refl refl refl rests) none
    where
      none : state (cond (eqb (exchange c).size 0) (behind (exchange c).follows) (SendPayload 0)) 0 c ≡ state (behind (exchange c).follows) 0 c
      none = rw (eq-eqb _ _ e) refl

  -- with a payload
  pub at-payload : 0 < length c.payload → Goes host (state TakeHeaderAck 0 c) (ack ∷ []) c.payload (state TakePayloadAck 0 c)
  unfolding exchange_of
  at-payload some = takes refl refl refl (via host first (till host (sends-list host c.payload (λ p. state (paid (length c.payload) p) 0 c) one) last))
    where
      first : state (cond (eqb (length c.payload) 0) (behind (exchange c).follows) (SendPayload 0)) 0 c ≡ state (paid (length c.payload) 0) 0 c
      first = rw (ne_eqb (length c.payload) 0 (λ e. omega arith), lt-ltb 0 (length c.payload) some) refl

      last : state (paid (length c.payload) (length c.payload)) 0 c ≡ state TakePayloadAck 0 c
      last = rw (le-ltb (length c.payload) (length c.payload) (omega arith)) refl

      one : (p : ℕ) → p < length c.payload → (host.need (state (paid (length c.payload) p) 0 c) ≡ machine.send_one)
          × (host.says (state (paid (length c.payload) p) 0 c) [] ≡ get_or c.payload p 0 ∷ [])
          × (host.after (state (paid (length c.payload) p) 0 c) [] ≡ state (paid (length c.payload) (p + 1)) 0 c)
      one p h = rw (lt-ltb p (length c.payload) h) (refl, refl, refl)

  pub at-go : Goes host (state TakePayloadAck 0 c) (ack ∷ bytes_of 2 (crc_of rule16 c.payload)) (ack ∷ []) (state (behind (exchange c).follows) 0 c)
  unfolding payload_crc
  at-go = takes refl refl refl (takes refl refl refl (takes refl refl refl (via host same (sends refl refl rests))))
    where
      crc : ℕ
      crc = crc_of rule16 c.payload

      same : crc_came 0 c (paired (low_byte crc) (high_byte crc)) ≡ state SendGo 0 c
      same = rw (paired-back crc (crc-fits c.payload), same-eqb crc) refl

  -- 15 for the header, and for the payload
  pub header_refused : Goes host (state TakeHeaderAck 0 c) (nak ∷ []) [] (state Over device_refused c)
  header_refused = takes refl refl refl rests

  pub payload_refused : Goes host (state TakePayloadAck 0 c) (nak ∷ []) [] (state Over device_refused c)
  payload_refused = takes refl refl refl rests

  -- an answer of n bytes
  module _ (n : ℕ) (awaits : awaited c ≡ n) (some : 0 < n) (small : n < 65536) where
    pub at_length : Goes host (state TakeLengthLow 0 c) (bytes_of 2 n) (ack ∷ []) (state (TakeAnswer 0) 0 c)
    at_length = takes refl refl refl (via host low (takes refl refl refl (via host high (sends refl refl rests))))
      where
        low : length_began 0 c (low_byte n) ≡ state (TakeLengthHigh (low_byte n)) 0 c
        low = rw (awaits, same-eqb (low_byte n), and-not (eqb (low_byte n) nak)) refl

        high : length_came 0 c (paired (low_byte n) (high_byte n)) ≡ state SendAnswerGo 0 c
        high = rw (paired-back n small, awaits, same-eqb n, ne_eqb n 0 (λ e. omega arith)) refl

    module _ (bytes : List ℕ) (is-n : length bytes ≡ n) (fits : n ≤ length c.answer) where
      abbrev pub filled : Lent
      filled = lent c.opcode c.payload (laid bytes c.answer)

      abbrev at : ℕ → List ℕ → State
      at p mem = state (collected (awaited c) p) 0 (lent c.opcode c.payload mem)

      crc-is : answer_crc (awaited c) filled.answer ≡ crc_of rule16 bytes
      unfolding answer_crc
      crc-is = rw (awaits, take_at bytes (drop (length bytes) c.answer) n is-n) refl

      pub at-answer : Goes host (state (TakeAnswer 0) 0 c) bytes (bytes_of 2 (crc_of rule16 bytes)) (state TakeLastAck 0 filled)
      at-answer =
          subst (λ (l : List ℕ). Goes host (state (TakeAnswer 0) 0 c) l (bytes_of 2 (crc_of rule16 bytes)) (state TakeLastAck 0 filled)) (append-nil bytes)
          (goes_on host (via host first (till host (takes-list host bytes at one c.answer (omega arith)) last)) checksum)
        where
          first : state (TakeAnswer 0) 0 c ≡ at 0 c.answer
          first = rw (awaits, lt-ltb 0 n some) refl

          last : at (length bytes) (laid bytes c.answer) ≡ state SendCrcLow 0 filled
          last = rw (awaits, is-n, le-ltb n n (omega arith)) refl

          one : (p : ℕ) (mem : List ℕ) (b : ℕ) → p < length bytes → (host.need (at p mem) ≡ machine.take_one) × (host.takes (at p mem) (b ∷ []) ≡ 1)
              × (host.says (at p mem) (b ∷ []) ≡ []) × (host.after (at p mem) (b ∷ []) ≡ at (p + 1) (set mem p b))
          one p mem b h = let inside : p < awaited c = omega arith in rw (lt-ltb p (awaited c) inside) (refl, refl, refl, refl)

          checksum : Goes host (state SendCrcLow 0 filled) [] (bytes_of 2 (crc_of rule16 bytes)) (state TakeLastAck 0 filled)
          checksum = subst (λ (x : ℕ). Goes host (state SendCrcLow 0 filled) [] (bytes_of 2 x) (state TakeLastAck 0 filled)) crc-is (sends refl refl (sends refl refl rests))

  pub at_end : Goes host (state TakeLastAck 0 c) (ack ∷ []) [] (state Over 0 c)
  at_end = takes refl refl refl rests
