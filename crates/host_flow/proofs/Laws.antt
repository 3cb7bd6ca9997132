-- The host is a lawful machine.
-- Assumes nothing.
use Prim.Native.Nat.{ℕ, suc, ◌+◌, ◌-◌}
use native.Mathlib.Omega.{arith}
use mathlib.Core.Path.{◌≡◌, refl}
use mathlib.Core.Bool.{Bool, true, false, ◌&&◌}
use mathlib.Core.List.{[]}
use lib.Dec.{eqb, ltb}
use borrow.Author.Tests.{ltb-false}
use Rattle.wire.specs.Line.{stx}
use Rattle.wire.proofs.Tests.{in-cond}
use Rattle.machine.specs.Machine.{runs}
use Rattle.machine.specs.Does.{need_of, took_of, line_of}
use Rattle.machine.specs.Lawful.{Lawful}
use Rattle.machine.specs.Leaving.{LeavesLast}
use Rattle.machine.proofs.Doing.{Leaves, Counted, does-lawful, leaves-weaken}
use Rattle.machine.proofs.Leavings.{leaving-lawful}
use Rattle.host_command.specs.declared.Follows.{Follows}
use Rattle.host_command.specs.declared.Follows.TheVariants.{Answers, Runs, Greets}
use Rattle.host_command.specs.Exchange.{Lent, exchange}
use Rattle.host_flow.specs.declared.step.Step.{Step}
use Rattle.host_flow.specs.declared.step.Step.TheVariants.{TakeGreeting, SendHeader, TakeHeaderAck, SendPayload, TakePayloadAck, TakeCrcLow, TakeCrcHigh, SendGo, SendNak, TakeLengthLow, TakeLengthHigh, SendAnswerGo, TakeAnswer, SendCrcLow, SendCrcHigh, TakeLastAck, Look, Over}
use Rattle.host_flow.specs.State.{State, state}
use Rattle.host_flow.specs.Flow.{header_length, behind, does_at, does}
use Rattle.host_flow.specs.Due.{due_at, due}
use Rattle.host_flow.specs.Host.{is_look, leaves, host}
use Rattle.host_flow.specs.Sound.{SoundStep, Sound}
use Rattle.host_flow.proofs.Sounds.{Held, same-lent, stays-held}

behind-due : (c : Lent) (f : Follows) → due_at c (behind f) ≡ 0
behind-due c (Answers size) = refl
behind-due c Runs = refl
behind-due c Greets = refl

-- a byte that is sent was counted
module _ (reason : ℕ) (c : Lent) where
  does-due : (step : Step) → SoundStep (exchange c) step → Counted due (state step reason c) (does_at reason c step)
  does-due (TakeGreeting place) h = tt
  does-due (SendHeader place) h =
      in-cond (λ (x : Step). header_length - place ≡ suc (due_at c x)) (ltb (place + 1) header_length) _ _ (λ t. omega arith) (λ t. omega (arith, ltb-false (place + 1) header_length t, h))
  does-due TakeHeaderAck h = tt
  does-due (SendPayload place) h =
      in-cond (λ (x : Step). (exchange c).size - place ≡ suc (due_at c x)) (ltb (place + 1) (exchange c).size) _ _
      (λ t. omega (arith, h)) (λ t. omega (arith, ltb-false (place + 1) (exchange c).size t, h))
  does-due TakePayloadAck h = tt
  does-due TakeCrcLow h = tt
  does-due (TakeCrcHigh low) h = tt
  does-due SendGo h = rw (behind-due c (exchange c).follows) refl
  does-due SendNak h = refl
  does-due TakeLengthLow h = tt
  does-due (TakeLengthHigh low) h = tt
  does-due SendAnswerGo h = refl
  does-due (TakeAnswer place) h = tt
  does-due SendCrcLow h = refl
  does-due SendCrcHigh h = refl
  does-due TakeLastAck h = tt
  does-due Look h = tt
  does-due Over h = tt

never : {A : Type 0} → ◌≡◌ {A = Bool} false true → A
never e = absurd (let z : ◌≡◌ {A = ℕ} 0 1 = cc in omega arith)

-- after the 02 that stays no action follows
leaves_last : LeavesLast leaves (line_of does due)
leaves_last s a view = go s.step
  where
    go : (step : Step) → (is_look step && eqb a stx) ≡ true → need_of (does (took_of (does_at s.reason s.lent step) (state step s.reason s.lent) a)) ≡ runs
    go (TakeGreeting place) e = never e
    go (SendHeader place) e = never e
    go TakeHeaderAck e = never e
    go (SendPayload place) e = never e
    go TakePayloadAck e = never e
    go TakeCrcLow e = never e
    go (TakeCrcHigh low) e = never e
    go SendGo e = never e
    go SendNak e = never e
    go TakeLengthLow e = never e
    go (TakeLengthHigh low) e = never e
    go SendAnswerGo e = never e
    go (TakeAnswer place) e = never e
    go SendCrcLow e = never e
    go SendCrcHigh e = never e
    go TakeLastAck e = never e
    go Look e = rw e refl
    go Over e = never e

pub held : (c₀ : Lent) (Good : ℕ → Type 0) → Lawful host Good (Held c₀)
held c₀ Good =
    leaving-lawful leaves (line_of does due) leaves_last
    (does-lawful does due Good (Held c₀) (stays-held c₀ Good) (λ s h. does-due s.reason s.lent s.step h.ready.step_sound))

keeps-sound : (Good : ℕ → Type 0) (s : State) → Sound s → Leaves Good (λ _ t. Sound t) [] s (does s)
keeps-sound Good s h =
    leaves-weaken Good (Held s.lent) Sound [] s (does s) (λ t k. k.ready) (stays-held s.lent Good s (record { ready = h; same = same-lent s.lent }))

pub lawful : (Good : ℕ → Type 0) → Lawful host Good Sound
lawful Good =
    leaving-lawful leaves (line_of does due) leaves_last
    (does-lawful does due Good Sound (keeps-sound Good) (λ s h. does-due s.reason s.lent s.step h.step_sound))
