-- A record that is read stands for a sound step, and a sound step's record is read as that step.
-- Assumes nothing.
use Rattle.std.specs.Prelude.{Option, Some, None}
use Prim.Native.Nat.{ℕ, ◌<◌}
use native.Mathlib.Omega.{arith}
use mathlib.Core.Path.{◌≡◌, refl, ap, subst}
use mathlib.Core.Bool.{cond, ◌&&◌}
use lib.Dec.{eqb, ltb}
use borrow.Author.Tests.{ltb-true, eqb-true, eqb-false, lt-ltb, ne_eqb}
use Rattle.wire.proofs.Tests.{in-cond, both_true}
use Rattle.machine.specs.declared.Record.{Record}
use Rattle.host_command.specs.declared.Follows.{Follows}
use Rattle.host_command.specs.declared.Follows.TheVariants.{Answers, Runs, Greets}
use Rattle.host_command.specs.declared.Exchange.{Exchange}
use Rattle.host_command.specs.Exchange.{awaited_of}
use Rattle.host_flow.specs.declared.step.Step.{Step}
use Rattle.host_flow.specs.declared.step.Step.TheVariants.{TakeGreeting, SendHeader, TakeHeaderAck, SendPayload, TakePayloadAck, TakeCrcLow, TakeCrcHigh, SendGo, SendNak, TakeLengthLow, TakeLengthHigh, SendAnswerGo, TakeAnswer, SendCrcLow, SendCrcHigh, TakeLastAck, Look, Over}
use Rattle.host_flow.specs.Fresh.{kind_number}
use Rattle.host_flow.specs.Sound.{HasAnswer, SoundStep}
use Rattle.host_record.specs.declared.Numbers.{Numbers}
use Rattle.host_record.specs.Record.{numbers, numbers_of, written, step_of, only_first, places_behind, places_of, decoded_of}

-- a place below `only_first` is there only if bytes are, and it is 0
first_some : (size place : ℕ) → place < only_first size → 0 < size
first_some size place = in-cond (λ (k : ℕ). place < k → 0 < size) (eqb size 0) 0 1 (λ t h. absurd (let z : ⊥ = omega arith in z)) (λ t h. omega (arith, eqb-false size 0 t))

some_first : (size : ℕ) → 0 < size → 0 < only_first size
some_first size h = rw (ne_eqb size 0 (λ e. let z : ⊥ = omega arith in z)) (omega arith)

-- a place that a phase after the execution has
length-place : (f : Follows) (phase place : ℕ) → phase < 11 → place < places_behind f phase → HasAnswer f
length-place (Answers size) phase place l h = tt
length-place Runs phase place l h = let z : ⊥ = omega arith in z
length-place Greets phase place l h = let z : ⊥ = omega (arith, rw (ne_eqb phase 16 (λ e. let w : ⊥ = omega arith in w)) at h) in z

answer-place : (f : Follows) (place : ℕ) → place < places_behind f 12 → place < awaited_of f
answer-place (Answers size) place h = h
answer-place Runs place h = h
answer-place Greets place h = h

-- the same in phases 11, 13, 14 and 15
some-place : (f : Follows) (place : ℕ) → place < places_behind f 11 → 0 < awaited_of f
some-place (Answers size) place h = first_some size place h
some-place Runs place h = omega arith
some-place Greets place h = omega arith

look-place : (f : Follows) (place : ℕ) → place < places_behind f 16 → f ≡ Greets
look-place (Answers size) place h = absurd (let z : ⊥ = omega arith in z)
look-place Runs place h = absurd (let z : ⊥ = omega arith in z)
look-place Greets place h = refl

same-places : (f : Follows) → (places_behind f 13 ≡ places_behind f 11) × (places_behind f 14 ≡ places_behind f 11) × (places_behind f 15 ≡ places_behind f 11)
same-places (Answers size) = (refl, refl, refl)
same-places Runs = (refl, refl, refl)
same-places Greets = (refl, refl, refl)

step_sound : (x : Exchange) (n : Numbers) → n.place < places_of x n.phase → SoundStep x (step_of n)
unfolding step_of places_of
step_sound x n p =
    let Q = SoundStep x in
    let k = n.phase in
    let f = x.follows in
    let same = same-places f in
    in-cond Q (eqb k 0) _ _ (λ e. rw (eqb-true k 0 e) at p) (λ e0.
    in-cond Q (eqb k 1) _ _ (λ e. rw (eqb-true k 1 e) at p) (λ e1.
    in-cond Q (eqb k 2) _ _ (λ e. tt) (λ e2.
    in-cond Q (eqb k 3) _ _ (λ e. rw (eqb-true k 3 e) at p) (λ e3.
    in-cond Q (eqb k 4) _ _ (λ e. first_some x.size n.place (rw (eqb-true k 4 e) at p)) (λ e4.
    in-cond Q (eqb k 5) _ _ (λ e. first_some x.size n.place (rw (eqb-true k 5 e) at p)) (λ e5.
    in-cond Q (eqb k 6) _ _ (λ e. first_some x.size n.place (rw (eqb-true k 6 e) at p)) (λ e6.
    in-cond Q (eqb k 7) _ _ (λ e. first_some x.size n.place (rw (eqb-true k 7 e) at p)) (λ e7.
    in-cond Q (eqb k 8) _ _ (λ e. first_some x.size n.place (rw (eqb-true k 8 e) at p)) (λ e8.
    in-cond Q (eqb k 9) _ _ (λ e. length-place f 9 n.place (omega arith) (rw (eqb-true k 9 e) at p)) (λ e9.
    in-cond Q (eqb k 10) _ _ (λ e. length-place f 10 n.place (omega arith) (rw (eqb-true k 10 e) at p)) (λ e10.
    in-cond Q (eqb k 11) _ _ (λ e. some-place f n.place (rw (eqb-true k 11 e) at p)) (λ e11.
    in-cond Q (eqb k 12) _ _ (λ e. answer-place f n.place (rw (eqb-true k 12 e) at p)) (λ e12.
    in-cond Q (eqb k 13) _ _ (λ e. some-place f n.place (rw same.0 at (rw (eqb-true k 13 e) at p))) (λ e13.
    in-cond Q (eqb k 14) _ _ (λ e. some-place f n.place (rw same.1 at (rw (eqb-true k 14 e) at p))) (λ e14.
    in-cond Q (eqb k 15) _ _ (λ e. some-place f n.place (rw same.2 at (rw (eqb-true k 15 e) at p))) (λ e15.
    in-cond Q (eqb k 16) _ _ (λ e. look-place f n.place (rw (eqb-true k 16 e) at p)) (λ e16. tt)))))))))))))))))

abbrev InFound : Exchange → Option Step → Type 0
InFound x (Some step) = SoundStep x step
InFound x None = Unit {0}

-- a record that is read stands for a sound step
pub decoded-sound : (x : Exchange) (r : Record) (s : Step) → decoded_of x r ≡ Some s → SoundStep x s
unfolding decoded_of
decoded-sound x r s e = subst (λ (d : Option Step). InFound x d) e whole
  where
    n : Numbers
    n = numbers r.phase r.place r.held

    whole : InFound x (cond (eqb r.kind kind_number && ltb r.place (places_of x r.phase)) (Some (step_of n)) None)
    whole =
        in-cond (InFound x) (eqb r.kind kind_number && ltb r.place (places_of x r.phase)) _ _
        (λ t. step_sound x n (ltb-true _ _ (both_true (eqb r.kind kind_number) (ltb r.place (places_of x r.phase)) t).1)) (λ t. tt)

step_back : (s : Step) → step_of (numbers_of s) ≡ s
unfolding step_of
step_back (TakeGreeting place) = refl
step_back (SendHeader place) = refl
step_back TakeHeaderAck = refl
step_back (SendPayload place) = refl
step_back TakePayloadAck = refl
step_back TakeCrcLow = refl
step_back (TakeCrcHigh low) = refl
step_back SendGo = refl
step_back SendNak = refl
step_back TakeLengthLow = refl
step_back (TakeLengthHigh low) = refl
step_back SendAnswerGo = refl
step_back (TakeAnswer place) = refl
step_back SendCrcLow = refl
step_back SendCrcHigh = refl
step_back TakeLastAck = refl
step_back Look = refl
step_back Over = refl

place-length : (f : Follows) → HasAnswer f → (0 < places_behind f 9) × (0 < places_behind f 10)
place-length (Answers size) h = (omega arith, omega arith)
place-length Runs h = absurd h
place-length Greets h = absurd h

place-answer : (f : Follows) (place : ℕ) → place < awaited_of f → place < places_behind f 12
place-answer (Answers size) place h = h
place-answer Runs place h = h
place-answer Greets place h = h

place-some : (f : Follows) → 0 < awaited_of f → 0 < places_behind f 11
place-some (Answers size) h = some_first size h
place-some Runs h = h
place-some Greets h = h

place-look : (f : Follows) → f ≡ Greets → 0 < places_behind f 16
place-look f e = rw e (omega arith)

in_place : (x : Exchange) (s : Step) → SoundStep x s → (numbers_of s).place < places_of x (numbers_of s).phase
unfolding places_of
in_place x (TakeGreeting place) h = h
in_place x (SendHeader place) h = h
in_place x TakeHeaderAck h = omega arith
in_place x (SendPayload place) h = h
in_place x TakePayloadAck h = some_first x.size h
in_place x TakeCrcLow h = some_first x.size h
in_place x (TakeCrcHigh low) h = some_first x.size h
in_place x SendGo h = some_first x.size h
in_place x SendNak h = some_first x.size h
in_place x TakeLengthLow h = (place-length x.follows h).0
in_place x (TakeLengthHigh low) h = (place-length x.follows h).1
in_place x SendAnswerGo h = place-some x.follows h
in_place x (TakeAnswer place) h = place-answer x.follows place h
in_place x SendCrcLow h = rw (same-places x.follows).0 (place-some x.follows h)
in_place x SendCrcHigh h = rw (same-places x.follows).1 (place-some x.follows h)
in_place x TakeLastAck h = rw (same-places x.follows).2 (place-some x.follows h)
in_place x Look h = place-look x.follows h
in_place x Over h = omega arith

-- a sound step is read back from its record
pub reads_back : (x : Exchange) (s : Step) (reason : ℕ) → SoundStep x s → decoded_of x (written s reason) ≡ Some s
unfolding decoded_of written
reads_back x s reason h = rw (lt-ltb _ _ (in_place x s h)) (ap Some (step_back s))
