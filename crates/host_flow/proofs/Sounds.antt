-- Every action leaves a sound state, the same command and an answer buffer of the same length.
-- Assumes nothing.
use Prim.Native.Nat.{ℕ, ◌+◌, ◌<◌}
use native.Mathlib.Omega.{arith}
use mathlib.Core.Path.{◌≡◌, refl, ◌∙◌}
use mathlib.Core.Bool.{true, cond, not}
use mathlib.Core.List.{[]}
use lib.Dec.{eqb, ltb}
use lib.ListN.{length-set}
use borrow.Author.Tests.{ltb-true, eqb-true, eqb-false, not-true}
use Rattle.wire.specs.Line.{stx, ack, nak}
use Rattle.wire.proofs.Tests.{in-cond, both_true}
use Rattle.numbers.specs.Number.{paired}
use Rattle.machine.proofs.Doing.{Leaves}
use Rattle.host_command.specs.declared.Follows.{Follows}
use Rattle.host_command.specs.declared.Follows.TheVariants.{Answers, Runs, Greets}
use Rattle.host_command.specs.declared.Exchange.{Exchange}
use Rattle.host_command.specs.Exchange.{Lent, SameLent, exchange, awaited}
use Rattle.host_command.specs.Refusal.{refusal_of}
use Rattle.host_flow.specs.declared.step.Step.{Step}
use Rattle.host_flow.specs.declared.step.Step.TheVariants.{TakeGreeting, SendHeader, TakeHeaderAck, SendPayload, TakePayloadAck, TakeCrcLow, TakeCrcHigh, SendGo, SendNak, TakeLengthLow, TakeLengthHigh, SendAnswerGo, TakeAnswer, SendCrcLow, SendCrcHigh, TakeLastAck, Look, Over}
use Rattle.host_flow.specs.State.{State, state}
use Rattle.host_flow.specs.Flow.{device_refused, device_crc, out_of_flow, etx, greeting_length, header_length, payload_crc, behind, headed, refuses_answer, is_awaited, stored, expected, does_at, does}
use Rattle.host_flow.specs.Sound.{SoundStep, Ready}

-- a sound state, with the command that was lent at first, and a buffer of that length
pub record Held (c₀ : Lent) (s : State) : Type 0 where
  pub ready : Ready s.step s.lent
  pub same : SameLent s.lent c₀

pub same-lent : (c : Lent) → SameLent c c
same-lent c = record { same_opcode = refl; same_payload = refl; same_length = refl }

behind-sound : (x : Exchange) (f : Follows) → x.follows ≡ f → SoundStep x (behind f)
behind-sound x (Answers size) e = rw e tt
behind-sound x Runs e = tt
behind-sound x Greets e = e

headed-sound : (x : Exchange) → SoundStep x (headed x)
headed-sound x = in-cond (SoundStep x) (eqb x.size 0) _ _ (λ t. behind-sound x x.follows refl) (λ t. omega (arith, eqb-false x.size 0 t))

-- an answer of the awaited length is not empty
length_some : (size wanted : ℕ) → is_awaited wanted size ≡ true → 0 < wanted
length_some size wanted e =
    let both = both_true (eqb size wanted) (not (eqb size 0)) e in
    omega (arith, eqb-true size wanted both.0, eqb-false size 0 (not-true (eqb size 0) both.1))

module _ (c₀ : Lent) where
  module _ (reason : ℕ) (c : Lent) (ok : refusal_of c ≡ 0) (same : SameLent c c₀) where
    at : (step : Step) (why : ℕ) → SoundStep (exchange c) step → Held c₀ (state step why c)
    at step why h = record { ready = record { accepted = ok; step_sound = h }; same = same }

    expected-held : (awaits byte : ℕ) (next : Step) → SoundStep (exchange c) next → Held c₀ (expected reason c awaits byte next)
    expected-held awaits byte next h =
        in-cond (Held c₀) (eqb byte awaits) _ _ (λ t. at next reason h) (λ t. at Over (cond (eqb byte nak) device_refused out_of_flow) tt)

    stored-accepted : (place byte : ℕ) → refusal_of (stored place byte c) ≡ 0
    unfolding refusal_of
    stored-accepted place byte = rw (length-set c.answer place byte) ok

    stored_same : (place byte : ℕ) → SameLent (stored place byte c) c₀
    stored_same place byte =
        record {
          same_opcode = same.same_opcode;
          same_payload = same.same_payload;
          same_length = length-set c.answer place byte ∙ same.same_length;
        }

    module _ (Good : ℕ → Type 0) where
      does-held : (step : Step) → SoundStep (exchange c) step → Leaves Good (λ _ t. Held c₀ t) [] (state step reason c) (does_at reason c step)
      does-held (TakeGreeting place) h = λ byte g.
          in-cond (Held c₀) (eqb place 0) _ _ (λ t. expected-held stx byte (TakeGreeting 1) (omega arith)) (λ z.
          in-cond (Held c₀) (ltb (place + 1) greeting_length) _ _ (λ t. at (TakeGreeting (place + 1)) reason (ltb-true (place + 1) greeting_length t)) (λ t.
          expected-held etx byte (SendHeader 0) (omega arith)))
      does-held (SendHeader place) h =
          in-cond (λ (x : Step). Held c₀ (state x reason c)) (ltb (place + 1) header_length) _ _
          (λ t. at (SendHeader (place + 1)) reason (ltb-true (place + 1) header_length t)) (λ t. at TakeHeaderAck reason tt)
      does-held TakeHeaderAck h = λ byte g. expected-held ack byte (headed (exchange c)) (headed-sound (exchange c))
      does-held (SendPayload place) h =
          in-cond (λ (x : Step). Held c₀ (state x reason c)) (ltb (place + 1) (exchange c).size) _ _
          (λ t. at (SendPayload (place + 1)) reason (ltb-true (place + 1) (exchange c).size t)) (λ t. at TakePayloadAck reason (omega (arith, h)))
      does-held TakePayloadAck h = λ byte g. expected-held ack byte TakeCrcLow h
      does-held TakeCrcLow h = λ byte g. at (TakeCrcHigh byte) reason h
      does-held (TakeCrcHigh low) h = λ byte g.
          in-cond (Held c₀) (eqb (paired low byte) (payload_crc c.payload)) _ _ (λ t. at SendGo reason h) (λ t. at SendNak device_crc h)
      does-held SendGo h = at (behind (exchange c).follows) reason (behind-sound (exchange c) (exchange c).follows refl)
      does-held SendNak h = at Over reason tt
      does-held TakeLengthLow h = λ byte g.
          in-cond (Held c₀) (refuses_answer (awaited c) byte) _ _ (λ t. at Over device_refused tt) (λ t. at (TakeLengthHigh byte) reason h)
      does-held (TakeLengthHigh low) h = λ byte g.
          in-cond (Held c₀) (is_awaited (awaited c) (paired low byte)) _ _
          (λ t. at SendAnswerGo reason (length_some (paired low byte) (awaited c) t)) (λ t. at Over out_of_flow tt)
      does-held SendAnswerGo h = at (TakeAnswer 0) reason h
      does-held (TakeAnswer place) h = λ byte g.
          in-cond (λ (x : Step). Held c₀ (state x reason (stored place byte c))) (ltb (place + 1) (awaited c)) _ _
          (λ t. record {
            ready = record { accepted = stored-accepted place byte; step_sound = ltb-true (place + 1) (awaited c) t };
            same = stored_same place byte;
          })
          (λ t. record { ready = record { accepted = stored-accepted place byte; step_sound = omega (arith, h) }; same = stored_same place byte })
      does-held SendCrcLow h = at SendCrcHigh reason h
      does-held SendCrcHigh h = at TakeLastAck reason h
      does-held TakeLastAck h = λ byte g. expected-held ack byte Over tt
      does-held Look h = λ byte g. expected-held stx byte Over tt
      does-held Over h = tt

  pub stays-held : (Good : ℕ → Type 0) (s : State) → Held c₀ s → Leaves Good (λ _ t. Held c₀ t) [] s (does s)
  stays-held Good s h = does-held s.reason s.lent h.ready.accepted h.same Good s.step h.ready.step_sound
