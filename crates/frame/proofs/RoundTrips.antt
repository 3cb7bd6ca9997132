-- The round trip: a fresh receiver takes a frame of its kind byte by byte, stores the code and runs it.
-- Assumes nothing.
use Prim.Native.Nat.{ℕ, suc, ◌+◌, ◌-◌, ◌*◌, ◌%◌, ◌/◌, ◌≤◌, ◌<◌}
use native.Mathlib.Omega.{arith}
use native.Mathlib.Nat.{zero-add}
use native.Mathlib.Numerals.{one-add}
use mathlib.Core.Path.{◌≡◌, refl, sym, ap, ◌∙◌}
use mathlib.Core.Bool.{true, false}
use mathlib.Core.List.{List, [], ◌∷◌, ◌++◌, append-nil, append_assoc}
use lib.Dec.{eqb, leb, ltb}
use lib.ListN.{length, drop, length-append}
use lib.Seq.{take-append_seam}
use borrow.Author.Tests.{leb-true, leb-false, eqb-false, ltb-false, lt-ltb, le-ltb, le-leb, ne_eqb}
use borrow.Table.Steps.{cases}
use Rattle.numbers.specs.Number.{bytes_of}
use Rattle.numbers.proofs.Numbers.{bytes-number}
use Rattle.memory.specs.Store.{laid}
use Rattle.memory.proofs.Stores.{laid_next}
use Rattle.machine.specs.Does.{Does, takes, sends, runs, need_of, took_of, sent_of, byte_of}
use Rattle.machine.specs.Outcome.{acted}
use Rattle.machine.specs.Uncut.{uncut}
use Rattle.machine.proofs.Actions.{uncut-act, uncut-run}
use Rattle.rom_flow.specs.declared.kind.Kind.{Kind}
use Rattle.rom_flow.specs.declared.kind.Kind.TheVariants.{P, E}
use Rattle.rom_flow.specs.declared.step.Step.TheVariants.{SendAck, TakeCode, SendXor, Running}
use Rattle.wire.specs.Line.{stx, soh, ack}
use Rattle.wire.specs.Unit.{first_address}
use Rattle.rom_flow.specs.State.{State, state}
use Rattle.rom_flow.specs.Flow.{xor_of, code_step, does}
use Rattle.rom_flow.specs.Receiver.{receiver}
use Rattle.rom_flow.specs.Fresh.{fresh}
use Rattle.rom_flow.proofs.Laws.{lawful-any}
use Rattle.frame.specs.Frame.{longest, length_field, header_of, frame_of, empty_code, long_code, short_output, written, framed_of}
use Rattle.frame.specs.RoundTrip.{RoundTrip}

-- the receiver at s, fed a stream uncut, takes all of it, sends what is said and comes to t
record Gives (s : State) (stream said : List ℕ) (t : State) : Type 0 where
  whole : uncut receiver s stream ≡ acted said (length stream) t

-- code runs and the stream is at its end
gives-end : (s : State) → does s ≡ runs → Gives s [] [] s
gives-end s e = record { whole = uncut-run receiver lawful-any s [] (ap (λ (d : Does ℕ State). need_of d) e) }

-- one byte is taken first
gives-take : (s : State) (b : ℕ) {next : ℕ → State} {stream said : List ℕ} {t : State} → does s ≡ takes next → Gives (next b) stream said t →
    Gives s (b ∷ stream) said t
gives-take s b {next} {stream} e g =
    let need = ap (λ (d : Does ℕ State). need_of d) e in
    let after : took_of (does s) s b ≡ next b = ap (λ (d : Does ℕ State). took_of d s b) e in
    record { whole = uncut-act receiver lawful-any s tt (b ∷ stream) 1 need (omega arith) ∙ rw (after, g.whole, one-add) }

-- one byte is sent first
gives-send : (s : State) {byte : ℕ} {next : State} {stream said : List ℕ} {t : State} → does s ≡ sends byte next → Gives next stream said t →
    Gives s stream (byte ∷ said) t
gives-send s {byte} {next} {stream} e g =
    let need = ap (λ (d : Does ℕ State). need_of d) e in
    let after : sent_of (does s) s ≡ next = ap (λ (d : Does ℕ State). sent_of d s) e in
    let says : byte_of (does s) ≡ byte = ap (λ (d : Does ℕ State). byte_of d) e in
    record { whole = uncut-act receiver lawful-any s tt stream 0 need (omega arith) ∙ rw (after, says, g.whole, zero-add) }

-- the state at the end
abbrev ran : Kind → (code ram : List ℕ) → State
ran kind code ram = state kind (Running first_address) 0 (laid code ram)

-- after the header, with a RAM where the code fits
module _ (kind : Kind) (code ram : List ℕ) (fits : length code ≤ length ram) where
  -- all of the code is stored: its XOR is sent and the last byte is to come
  gives-xor : Gives (state kind (SendXor (length code)) 0 (laid code ram)) (ack ∷ []) (xor_of code ∷ []) (ran kind code ram)
  gives-xor =
      rw (take-append_seam code (drop (length code) ram))
      at (gives-send (state kind (SendXor (length code)) 0 (laid code ram)) refl (gives-take _ ack refl (gives-end (ran kind code ram) refl)))

  -- the first bytes of the code are stored, and the rest of it is to come
  gives-code : (done rest : List ℕ) → done ++ rest ≡ code →
      Gives (state kind (code_step (length code) (length done)) 0 (laid done ram)) (rest ++ ack ∷ []) (xor_of code ∷ []) (ran kind code ram)
  gives-code done [] e =
      let all : done ≡ code = sym (append-nil done) ∙ e in
      let last : ltb (length code) (length code) ≡ false = le-ltb (length code) (length code) (omega arith) in
      rw (all, last) gives-xor
  gives-code done (b ∷ rest) e =
      let sum : length done + suc (length rest) ≡ length code = sym (length-append done (b ∷ rest)) ∙ ap length e in
      let more : ltb (length done) (length code) ≡ true = lt-ltb (length done) (length code) (omega arith) in
      let room : length done < length ram = omega arith in
      let next = gives-code (done ++ b ∷ []) rest (append_assoc done (b ∷ []) rest ∙ e) in
      rw more
      (gives-take (state kind (TakeCode (length code) (length done)) 0 (laid done ram)) b refl
      (rw (laid_next done ram b room, ← length-append done (b ∷ [])) next))

  -- the length is acknowledged, and all of the code is to come
  gives-acked : 0 < length code → Gives (state kind (SendAck (length code)) 0 ram) (code ++ ack ∷ []) (ack ∷ xor_of code ∷ []) (ran kind code ram)
  gives-acked some = gives-send _ refl (rw (lt-ltb 0 (length code) some) at (gives-code [] code refl))

-- two bytes, read again
pair_is : (n : ℕ) → n < 65536 → n % 256 + 256 * (n / 256 % 256) ≡ n
pair_is n h = omega (arith, bytes-number 2 n h)

-- the header of a length n that is not zero, with a RAM of n bytes or more: 02 is sent, the header taken, and n acknowledged next
module _ (ram : List ℕ) (n : ℕ) (some : 0 < n) (fits : n ≤ length ram) {stream said : List ℕ} {t : State} where
  -- a length field of two bytes
  gives-plain : (kind : Kind) → n < 65536 → Gives (state kind (SendAck n) 0 ram) stream said t →
      Gives (fresh kind ram) (soh ∷ bytes_of 2 n ++ stream) (stx ∷ said) t
  gives-plain kind h g =
      let nonzero : eqb n 0 ≡ false = ne_eqb n 0 (λ e. omega arith) in
      gives-send _ refl
      (gives-take _ soh refl
      (gives-take _ (n % 256) refl (gives-take _ (n / 256 % 256) refl (rw (pair_is n h, nonzero, le-leb n (length ram) fits) g))))

  -- an extended one
  gives-extended : 65536 ≤ n → n ≤ longest E → Gives (state E (SendAck n) 0 ram) stream said t →
      Gives (fresh E ram) (soh ∷ 0 ∷ 0 ∷ bytes_of 2 (n - 65536) ++ stream) (stx ∷ said) t
  gives-extended h most g =
      let k = n - 65536 in
      let sum : 65536 + (k % 256 + 256 * (k / 256 % 256)) ≡ n = omega (arith, pair_is k (omega arith)) in
      gives-send _ refl
      (gives-take _ soh refl
      (gives-take _ 0 refl
      (gives-take _ 0 refl (gives-take _ (k % 256) refl (gives-take _ (k / 256 % 256) refl (rw (sum, le-leb n (length ram) fits) g))))))

  -- the one that the kind has for n
  gives-header : (kind : Kind) → n ≤ longest kind → Gives (state kind (SendAck n) 0 ram) stream said t →
      Gives (fresh kind ram) (header_of kind n ++ stream) (stx ∷ said) t
  unfolding length_field
  gives-header P most g = gives-plain P (omega arith) g
  gives-header E most g =
      cases (leb 65536 n) (λ e. rw e (gives-extended (leb-true 65536 n e) most g)) (λ e. rw e (gives-plain E (leb-false 65536 n e) g))

-- a whole frame
gives-frame : (kind : Kind) (code ram : List ℕ) → 0 < length code → length code ≤ longest kind → length code ≤ length ram →
    Gives (fresh kind ram) (frame_of kind code) (stx ∷ ack ∷ xor_of code ∷ []) (ran kind code ram)
gives-frame kind code ram some most fits =
    rw (append_assoc (header_of kind (length code)) code (ack ∷ []))
    (gives-header ram (length code) some fits kind most (gives-acked kind code ram fits some))

-- a code that is not refused: there is some, no more than its kind has, and its frame is written
record Accepted (kind : Kind) (code out : List ℕ) : Type 0 where
  some : 0 < length code
  most : length code ≤ longest kind
  is-written : framed_of kind code out ≡ written (record { number = 0; length = length (frame_of kind code) }) (laid (frame_of kind code) out)

-- the number 0 says so: each refusal has another
accepted : (kind : Kind) (code out : List ℕ) → (framed_of kind code out).framed.number ≡ 0 → Accepted kind code out
unfolding framed_of
accepted kind code out e =
    cases (eqb (length code) 0)
    (λ p. absurd (let z : empty_code ≡ 0 = simp p at e in omega arith))
    (λ p. cases (ltb (longest kind) (length code))
    (λ q. absurd (let z : long_code ≡ 0 = simp (p, q) at e in omega arith))
    (λ q. cases (ltb (length out) (length (frame_of kind code)))
    (λ r. absurd (let z : short_output ≡ 0 = simp (p, q, r) at e in omega arith))
    (λ r. record {
      some = omega (arith, eqb-false (length code) 0 p);
      most = ltb-false (longest kind) (length code) q;
      is-written = simp (p, q, r);
    })))

-- the output's first bytes are the frame, and the receiver takes it whole
pub round_trip : RoundTrip
round_trip kind code out ram e fits =
    let a = accepted kind code out e in
    let frame = frame_of kind code in
    rw (a.is-written, take-append_seam frame (drop (length frame) out)) (gives-frame kind code ram a.some a.most fits).whole
