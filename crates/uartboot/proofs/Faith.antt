-- What the session keeps to, so that its lists of calls follow its definition; code runs exactly when a Run is acknowledged, and a
-- command NAKed before execution has changed neither RAM nor flash.
-- Assumes nothing.
use Prim.Native.Nat.{ℕ}
use native.Mathlib.Omega.{arith}
use mathlib.Core.Path.{◌≡◌, refl, sym, ap, subst, ◌∙◌}
use mathlib.Core.Bool.{Bool, true, false, cond, ◌&&◌}
use mathlib.Core.List.{List, [], ◌∷◌}
use lib.ListN.{length}
use Rattle.wire.specs.Bytes.{Byte}
use Rattle.machine.specs.Machine.{acts}
use Rattle.machine.specs.Does.{Does, takes, sends, runs, need_of, took_of, sent_of}
use Rattle.machine.specs.History.{Event}
use Rattle.machine.specs.Acknowledged.{RunsExactly}
use Rattle.machine.specs.SessionLaws.{OneByOne, Faithful}
use Rattle.machine.proofs.Acknowledgements.{runs_on}
use Rattle.machine.proofs.Doing.{Leaves, does-one, does-speaks, does-kept, leaves-weaken}
use Rattle.memory.specs.Memories.{Memories}
use Rattle.uartboot_flow.specs.declared.step.Step.{Step}
use Rattle.uartboot_flow.specs.declared.step.Step.TheVariants.{Greeting, Header, Command, Answer, Refusal, Running}
use Rattle.uartboot_flow.specs.State.{State}
use Rattle.uartboot_flow.specs.Flow.{does}
use Rattle.uartboot_flow.specs.Due.{due}
use Rattle.uartboot_flow.specs.Device.{device}
use Rattle.uartboot_flow.specs.Fresh.{fresh}
use Rattle.uartboot_flow.specs.Sound.{Sound}
use Rattle.uartboot_flow.proofs.Laws.{same-lengths, lawful}
use Rattle.uartboot_flow.proofs.Sounds.{Held, stays-held}
use Rattle.uartboot_record.specs.Record.{written}
use Rattle.uartboot_record.proofs.Records.{reads_back}
use Rattle.uartboot.specs.Session.{uartboot}
use Rattle.uartboot.specs.History.{awaits, is_early, is_refusal, begins, Last, since, noted, last_of, SameSince, Unchanged}
use Rattle.uartboot.specs.History as history
use Rattle.uartboot.proofs.Calls.{fitting, fitting-accepted}
use Rattle.uartboot.proofs.Histories.{Stores, is_before, Goes, quiet, GoesIf, ChecksAt, Left, Lefts, does-left}
use Rattle.uartboot.proofs.Histories as histories

-- RAM and flash are as they were in m
abbrev Same : Memories → State → Type 0
Same m s = (s.mem.ram ≡ m.ram) × (s.mem.flash ≡ m.flash)

-- until its execution a command leaves RAM and flash as they were; once it is NAKed before that, it is over
abbrev pub Began : Last → State → Type 0
Began history.none s = Unit {0}
Began (since m false) s = is_before s.step ≡ true → Same m s
Began (since m true) s = (is_before s.step ≡ false) × Same m s

still-same : (m : Memories) (s t : State) → Same m s → Stores s t → Same m t
still-same m s t h g = (g.0 ∙ h.0, g.1 ∙ h.1)

pub never : {A : Type 0} → ◌≡◌ {A = Bool} false true → A
never e = absurd (let z : ◌≡◌ {A = ℕ} 0 1 = cc in omega arith)

early-before : (step : Step) → is_early step ≡ true → is_before step ≡ true
early-before (Greeting place) e = e
early-before (Header step) e = e
early-before (Command opcode n step) e = refl
early-before (Answer opcode n step) e = e
early-before Refusal e = e
early-before (Running address) e = e

refusal-over : (step : Step) → is_refusal step ≡ true → is_before step ≡ false
refusal-over (Greeting place) e = refl
refusal-over (Header step) e = never e
refusal-over (Command opcode n step) e = never e
refusal-over (Answer opcode n step) e = refl
refusal-over Refusal e = refl
refusal-over (Running address) e = refl

not-before : (x y : Bool) → (x ≡ true → y ≡ true) → y ≡ false → x ≡ false
not-before true y up e = absurd (let z : ◌≡◌ {A = Bool} true false = sym (up refl) ∙ e in let w : ◌≡◌ {A = ℕ} 0 1 = cc in omega arith)
not-before false y up e = refl

both : (x y : Bool) → (x && y) ≡ true → (x ≡ true) × (y ≡ true)
both true y e = (refl, e)
both false y e = never e

-- an action with which no command begins
goes-began : (s t : State) (m : Memories) (nak : Bool) → (is_early s.step && is_refusal t.step) ≡ nak → (refused : Bool) → Goes s t →
    Began (since m refused) s → Began (noted nak (since m refused)) t
goes-began s t m true e true (quiet st up) h = (not-before (is_before t.step) (is_before s.step) up h.0, still-same m s t h.1 st)
goes-began s t m false e true (quiet st up) h = (not-before (is_before t.step) (is_before s.step) up h.0, still-same m s t h.1 st)
goes-began s t m true e false (quiet st up) h =
    let b = both (is_early s.step) (is_refusal t.step) e in
    (refusal-over t.step b.1, still-same m s t (h (early-before s.step b.0)) st)
goes-began s t m false e false (quiet st up) h = λ z. still-same m s t (h (up z)) st
goes-began s t m nak e true (histories.acts b c d) h = never (sym h.0 ∙ b)
goes-began s t m true e false (histories.acts b c d) h = never (sym d ∙ (both (is_early s.step) (is_refusal t.step) e).0)
goes-began s t m false e false (histories.acts b c d) h = λ z. never (sym c ∙ z)

next-began : (s t : State) (begun : Bool) → GoesIf begun s t → (last : Last) → Began last s →
    Began (cond begun (since s.mem false) (noted (is_early s.step && is_refusal t.step) last)) t
next-began s t true g last h = λ z. g
next-began s t false g history.none h = tt
next-began s t false g (since m refused) h = goes-began s t m (is_early s.step && is_refusal t.step) refl refused g h

pub record Invariant (events : List (Event ℕ State)) (s : State) : Type 0 where
  pub sound : Sound s
  pub checks : ChecksAt s.mem s.step
  pub exactly : RunsExactly awaits device events s
  pub began : Began (last_of events) s

invariant-next : (events : List (Event ℕ State)) (s t : State) (view : List ℕ) (views : ℕ) → device.after s view ≡ t → device.need s ≡ acts views →
    Invariant events s → Left s view t → Sound t → Invariant (record { state = s; view = view } ∷ events) t
invariant-next events s t view views e n h l k =
    record {
      sound = k;
      checks = l.checks;
      exactly = runs_on awaits device events s t view views n h.exactly l.starts;
      began =
          subst (λ (x : State). Began (cond (begins (record { state = s; view = view })) (since s.mem false) (noted (is_early s.step && is_refusal x.step) (last_of events))) t) (sym e)
          (next-began s t (begins (record { state = s; view = view })) l.goes_on (last_of events) h.began);
    }

invariant-kept : (events : List (Event ℕ State)) (s : State) → Invariant events s → Leaves Byte Invariant events s (does s)
invariant-kept events s h = go (does s) refl (does-left s.reason s.mem s.step h.sound h.checks) sounds
  where
    sounds : Leaves Byte (λ _ t. Sound t) [] s (does s)
    sounds = leaves-weaken Byte (Held s.mem) Sound [] s (does s) (λ t k. k.ready) (stays-held s.mem Byte s (record { ready = h.sound; same = same-lengths s.mem }))

    go : (d : Does ℕ State) → does s ≡ d → Lefts s d → Leaves Byte (λ _ t. Sound t) [] s d → Leaves Byte Invariant events s d
    go (takes next) e l k =
        λ b g. invariant-next events s (next b) (b ∷ []) 1 (ap (λ (d : Does ℕ State). took_of d s b) e) (ap (λ (d : Does ℕ State). need_of d) e) h (l b) (k b g)
    go (sends byte next) e l k =
        invariant-next events s next [] 0 (ap (λ (d : Does ℕ State). sent_of d s) e) (ap (λ (d : Does ℕ State). need_of d) e) h l k
    go runs e l k = tt

pub one_by_one : OneByOne device
one_by_one = does-one does due

-- the session's lists of calls follow its definition
pub faithful : Faithful uartboot Byte fresh Sound Invariant
unfolding written
faithful =
    record {
      lawful = lawful Byte;
      speaks = does-speaks does due;
      fresh_sound = λ m e. record { fitting = fitting _ _ _ e; step_sound = omega arith };
      fresh_memories = λ m. refl;
      fits = λ s g. fitting-accepted _ _ _ g.fitting;
      reads_back = λ s g. rw (reads_back (length s.mem.ram) (length s.mem.work) s.step s.reason g.step_sound) refl;
      at_first = λ m e. record { sound = record { fitting = fitting _ _ _ e; step_sound = omega arith }; checks = tt; exactly = refl; began = tt };
      kept = does-kept does due Byte Invariant invariant-kept;
    }

-- what the invariant says of the history
kept_at : (last : Last) (s : State) → Began last s → SameSince last s
kept_at history.none s h = tt
kept_at (since m false) s h = tt
kept_at (since m true) s h = h.1

pub tells : (events : List (Event ℕ State)) (s : State) → Invariant events s → RunsExactly awaits device events s × Unchanged events s
tells events s h = (h.exactly, kept_at (last_of events) s h.began)
