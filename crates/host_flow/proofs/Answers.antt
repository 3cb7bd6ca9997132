-- On every way of a host the command stays, answer bytes that came are at the front of the buffer, and its other bytes stay.
-- Assumes nothing.
use Prim.Native.Nat.{ℕ, ◌+◌, ◌<◌}
use native.Mathlib.Omega.{arith}
use mathlib.Core.Path.{◌≡◌, refl, ap, ◌∙◌}
use mathlib.Core.Bool.{false}
use mathlib.Core.List.{List, [], ◌∷◌, ◌++◌}
use lib.Dec.{eqb, ltb}
use lib.ListN.{length, drop, set, length-append, length-drop}
use Rattle.wire.specs.Line.{stx, ack}
use Rattle.wire.proofs.Tests.{in-cond}
use Rattle.numbers.specs.Number.{paired}
use Rattle.memory.specs.Store.{laid}
use Rattle.memory.proofs.Stores.{laid_next}
use Rattle.machine.specs.Does.{Does, takes, sends}
use Rattle.machine.specs.Does as does-of
use Rattle.machine.specs.History.{Event}
use Rattle.machine.specs.Lawful.{Kept}
use Rattle.machine.proofs.Doing.{Leaves, does-kept}
use Rattle.host_command.specs.declared.Follows.{Follows}
use Rattle.host_command.specs.declared.Follows.TheVariants.{Answers, Runs, Greets}
use Rattle.host_command.specs.Exchange.{Lent, lent, exchange, awaited}
use Rattle.host_command.proofs.Commands.{fits}
use Rattle.host_flow.specs.declared.step.Step.{Step}
use Rattle.host_flow.specs.declared.step.Step.TheVariants.{TakeGreeting, SendHeader, TakeHeaderAck, SendPayload, TakePayloadAck, TakeCrcLow, TakeCrcHigh, SendGo, SendNak, TakeLengthLow, TakeLengthHigh, SendAnswerGo, TakeAnswer, SendCrcLow, SendCrcHigh, TakeLastAck, Look, Over}
use Rattle.host_flow.specs.State.{State, state}
use Rattle.host_flow.specs.Flow.{etx, greeting_length, header_length, payload_crc, behind, headed, refuses_answer, is_awaited, expected, does_at, does}
use Rattle.host_flow.specs.Due.{due}
use Rattle.host_flow.specs.Host.{host}
use Rattle.host_flow.specs.Sound.{Sound}
use Rattle.host_flow.specs.Stays.{is_answer, came_in, lent_first, AnswerCame}
use Rattle.host_flow.proofs.Sounds.{Held, same-lent, stays-held}

-- how many answer bytes have come by a step: none before the answer, then as many as the place says
abbrev Placed : Step → (count : ℕ) → Type 0
Placed (TakeGreeting place) count = count ≡ 0
Placed (SendHeader place) count = count ≡ 0
Placed TakeHeaderAck count = count ≡ 0
Placed (SendPayload place) count = count ≡ 0
Placed TakePayloadAck count = count ≡ 0
Placed TakeCrcLow count = count ≡ 0
Placed (TakeCrcHigh low) count = count ≡ 0
Placed SendGo count = count ≡ 0
Placed SendNak count = count ≡ 0
Placed TakeLengthLow count = count ≡ 0
Placed (TakeLengthHigh low) count = count ≡ 0
Placed SendAnswerGo count = count ≡ 0
Placed (TakeAnswer place) count = count ≡ place
Placed SendCrcLow count = Unit {0}
Placed SendCrcHigh count = Unit {0}
Placed TakeLastAck count = Unit {0}
Placed Look count = Unit {0}
Placed Over count = Unit {0}

behind-placed : (f : Follows) (count : ℕ) → count ≡ 0 → Placed (behind f) count
behind-placed (Answers size) count h = h
behind-placed Runs count h = tt
behind-placed Greets count h = tt

-- of the way so far
pub record Watched (events : List (Event ℕ State)) (s : State) : Type 0 where
  pub ready : Sound s
  pub came : AnswerCame events s
  pub placed : Placed s.step (length (came_in events))

module _ (reason : ℕ) (c : Lent) (count : ℕ) where
  -- what is lent stays
  abbrev Plain : State → Type 0
  Plain t = (t.lent ≡ c) × Placed t.step count

  abbrev PlainAfter : Does ℕ State → Type 0
  PlainAfter (takes next) = (a : ℕ) → Plain (next a)
  PlainAfter (sends byte next) = Plain next
  PlainAfter does-of.runs = Unit {0}

  expected-plain : (awaits byte : ℕ) (next : Step) → Placed next count → Plain (expected reason c awaits byte next)
  expected-plain awaits byte next h = in-cond Plain (eqb byte awaits) _ _ (λ t. (refl, h)) (λ t. (refl, tt))

  plain : (step : Step) → is_answer step ≡ false → Placed step count → PlainAfter (does_at reason c step)
  plain (TakeGreeting place) e h = λ byte.
      in-cond Plain (eqb place 0) _ _ (λ t. expected-plain stx byte (TakeGreeting 1) h) (λ t.
      in-cond Plain (ltb (place + 1) greeting_length) _ _ (λ t. (refl, h)) (λ t. expected-plain etx byte (SendHeader 0) h))
  plain (SendHeader place) e h = (refl, in-cond (λ (x : Step). Placed x count) (ltb (place + 1) header_length) (SendHeader (place + 1)) TakeHeaderAck (λ t. h) (λ t. h))
  plain TakeHeaderAck e h = λ byte.
      expected-plain ack byte (headed (exchange c))
      (in-cond (λ (x : Step). Placed x count) (eqb (exchange c).size 0) _ _ (λ t. behind-placed (exchange c).follows count h) (λ t. h))
  plain (SendPayload place) e h =
      (refl, in-cond (λ (x : Step). Placed x count) (ltb (place + 1) (exchange c).size) (SendPayload (place + 1)) TakePayloadAck (λ t. h) (λ t. h))
  plain TakePayloadAck e h = λ byte. expected-plain ack byte TakeCrcLow h
  plain TakeCrcLow e h = λ byte. (refl, h)
  plain (TakeCrcHigh low) e h = λ byte. in-cond Plain (eqb (paired low byte) (payload_crc c.payload)) _ _ (λ t. (refl, h)) (λ t. (refl, h))
  plain SendGo e h = (refl, behind-placed (exchange c).follows count h)
  plain SendNak e h = (refl, tt)
  plain TakeLengthLow e h = λ byte. in-cond Plain (refuses_answer (awaited c) byte) _ _ (λ t. (refl, tt)) (λ t. (refl, h))
  plain (TakeLengthHigh low) e h = λ byte. in-cond Plain (is_awaited (awaited c) (paired low byte)) _ _ (λ t. (refl, h)) (λ t. (refl, tt))
  plain SendAnswerGo e h = (refl, h)
  plain (TakeAnswer place) e h = absurd (let z : ◌≡◌ {A = ℕ} 0 1 = cc in omega arith)
  plain SendCrcLow e h = (refl, tt)
  plain SendCrcHigh e h = (refl, tt)
  plain TakeLastAck e h = λ byte. expected-plain ack byte Over tt
  plain Look e h = λ byte. expected-plain stx byte Over tt
  plain Over e h = tt

-- one more byte of an answer
more-came : (came old now : List ℕ) (place byte : ℕ) → now ≡ laid came old → length came ≡ place → place < length now →
    set now place byte ≡ laid (came ++ (byte ∷ [])) old
more-came came old now place byte e l h =
    let size : length now ≡ length came + length (drop (length came) old) = ap length e ∙ length-append came (drop (length came) old) in
    let room : length came < length old = omega (arith, size, length-drop (length came) old) in
    rw (e, ← l) (laid_next came old byte room)

module _ (events : List (Event ℕ State)) (s : State) (w : Watched events s) (Good : ℕ → Type 0) where
  abbrev then : List ℕ → List (Event ℕ State)
  then view = record { state = s; view = view } ∷ events

  -- by an action that is no take of an answer
  module _ (other : is_answer s.step ≡ false) where
    still : (view : List ℕ) (t : State) → Plain s.reason s.lent (length (came_in events)) t → Sound t → Watched (then view) t
    still view t p k = record { ready = k; came = rw other (p.0 ∙ w.came); placed = rw other p.1 }

    others : (d : Does ℕ State) → Leaves Good (λ _ t. Held s.lent t) [] s d → PlainAfter s.reason s.lent (length (came_in events)) d → Leaves Good Watched events s d
    others (takes next) l p = λ a g. still (a ∷ []) (next a) (p a) (l a g).ready
    others (sends byte next) l p = still [] next p l.ready
    others does-of.runs l p = tt

answer-on : (events : List (Event ℕ State)) (reason : ℕ) (c : Lent) (place : ℕ) (Good : ℕ → Type 0) → let s = state (TakeAnswer place) reason c in
    Watched events s → Leaves Good (λ _ t. Held c t) [] s (does_at reason c (TakeAnswer place)) → Leaves Good Watched events s (does_at reason c (TakeAnswer place))
answer-on events reason c place Good w l = λ byte g.
    let first = lent_first events (state (TakeAnswer place) reason c) in
    let inside : place < length c.answer = omega (arith, w.ready.step_sound, (fits c w.ready.accepted).has_room) in
    let stored = more-came (came_in events) first.answer c.answer place byte (ap (λ (x : Lent). x.answer) w.came) w.placed inside in
    record {
      ready = (l byte g).ready;
      came = rw (← stored) (ap (λ (x : Lent). lent x.opcode x.payload (set c.answer place byte)) w.came);
      placed =
          in-cond (λ (x : Step). Placed x (length (came_in events ++ (byte ∷ [])))) (ltb (place + 1) (awaited c)) (TakeAnswer (place + 1)) SendCrcLow
          (λ t. length-append (came_in events) (byte ∷ []) ∙ ap (λ (n : ℕ). n + 1) w.placed) (λ t. tt);
    }

-- every action
module _ (Good : ℕ → Type 0) (events : List (Event ℕ State)) (reason : ℕ) (c : Lent) where
  holds : (step : Step) → Watched events (state step reason c) → Leaves Good (λ _ t. Held c t) [] (state step reason c) (does_at reason c step)
  holds step w = stays-held c Good (state step reason c) (record { ready = w.ready; same = same-lent c })

  other : (step : Step) → Watched events (state step reason c) → is_answer step ≡ false → Leaves Good Watched events (state step reason c) (does_at reason c step)
  other step w e = others events (state step reason c) w Good e (does_at reason c step) (holds step w) (plain reason c (length (came_in events)) step e w.placed)

  each : (step : Step) → Watched events (state step reason c) → Leaves Good Watched events (state step reason c) (does_at reason c step)
  each (TakeGreeting place) w = other (TakeGreeting place) w refl
  each (SendHeader place) w = other (SendHeader place) w refl
  each TakeHeaderAck w = other TakeHeaderAck w refl
  each (SendPayload place) w = other (SendPayload place) w refl
  each TakePayloadAck w = other TakePayloadAck w refl
  each TakeCrcLow w = other TakeCrcLow w refl
  each (TakeCrcHigh low) w = other (TakeCrcHigh low) w refl
  each SendGo w = other SendGo w refl
  each SendNak w = other SendNak w refl
  each TakeLengthLow w = other TakeLengthLow w refl
  each (TakeLengthHigh low) w = other (TakeLengthHigh low) w refl
  each SendAnswerGo w = other SendAnswerGo w refl
  each (TakeAnswer place) w = answer-on events reason c place Good w (holds (TakeAnswer place) w)
  each SendCrcLow w = other SendCrcLow w refl
  each SendCrcHigh w = other SendCrcHigh w refl
  each TakeLastAck w = other TakeLastAck w refl
  each Look w = other Look w refl
  each Over w = other Over w refl

pub watched : (Good : ℕ → Type 0) → Kept host Good Watched
watched Good = does-kept does due Good Watched (λ events s w. each Good events s.reason s.lent s.step w)
