-- A machine that keeps a tally of its actions of one kind: a run of it says how often they are made.
-- Assumes nothing.
use Prim.Native.Nat.{ℕ, suc, ◌≤◌}
use native.Mathlib.Omega.{arith}
use mathlib.Core.Path.{◌≡◌, sym, ap, ◌∙◌}
use mathlib.Core.Bool.{Bool, cond}
use mathlib.Core.List.{List, [], append-nil}
use lib.ListN.{drop}
use Rattle.wire.proofs.Tests.{in-cond}
use Rattle.machine.specs.Machine.{Machine}
use Rattle.machine.specs.Outcome.{Outcome, halt, join}
use Rattle.machine.specs.Uncut.{uncut}
use Rattle.machine.specs.History.{Event, Way, here, more, Came}
use Rattle.machine.specs.Lawful.{Any, Moves, takes_some, sends_some, stops, Lawful}
use Rattle.machine.specs.Cuts.{Stopped, waits, running}
use Rattle.machine.proofs.Outcomes.{join-halt}
use Rattle.machine.proofs.Paths.{all_any, at-start, path-keeps, path-continues, uncut-came}
use Rattle.machine.proofs.Cuts.{came-agrees}
use Rattle.joining.specs.Goes.{Goes, rests, takes, sends}
use Rattle.joining.specs.Talk.{Talk, over, round, hears}
use Rattle.joining.specs.Times.{times, Times}
use Rattle.joining.proofs.Goings.{went, goes-sound, goes-uncut}
use Rattle.joining.proofs.Beginnings.{came-stops, stopped-halts}

-- a state, with the tally so far
pub record Tallied (S : Type 0) : Type 0 where
  pub state : S
  pub tally : ℕ

abbrev pub tallied : {S : Type 0} → S → ℕ → Tallied S
tallied s n = record { state = s; tally = n }

module _ {S : Type 0} (is_one : Event ℕ S → Bool) (m : Machine ℕ S) where
  abbrev pub tallying : Machine ℕ (Tallied S)
  tallying =
      record {
        need = λ p. m.need p.state;
        after = λ p view. tallied (m.after p.state view) (cond (is_one (record { state = p.state; view = view })) (suc p.tally) p.tally);
        says = λ p view. m.says p.state view;
        takes = λ p view. m.takes p.state view;
        due = λ p. m.due p.state;
      }

  -- without the tally
  pub goes-plain : {p q : Tallied S} {us bs : List ℕ} → Goes tallying p us bs q → Goes m p.state us bs q.state
  goes-plain rests = rests
  goes-plain (takes e f g l) = takes e f g (goes-plain l)
  goes-plain (sends e f l) = sends e f (goes-plain l)

  pub talk-plain : {T : Type 0} {k : Machine ℕ T} {s s' : T} {p q : Tallied S} {waiting used h r left : List ℕ} →
      Talk k tallying s p waiting used h r s' q left → Talk k m s p.state waiting used h r s' q.state left
  talk-plain over = over
  talk-plain (round g h later) = round g (goes-plain h) (talk-plain later)
  talk-plain (hears g later) = hears g (talk-plain later)

  -- the tally after actions is how often they are of the kind
  pub way-tallied : {s : S} {stream : List ℕ} {events : List (Event ℕ S)} {o : Outcome S} → Way m s stream events o →
      Came tallying (tallied s 0) stream (record { replies = o.replies; taken = o.taken; final = tallied o.final (times is_one events) })
  way-tallied here = record { events = []; way = here }
  way-tallied (more w e v l) = let c = way-tallied w in record { events = _; way = more c.way e v l }

  module _ {Sound : S → Type 0} (law : Lawful m Any Sound) where
    abbrev Sounds : Tallied S → Type 0
    Sounds p = Sound p.state

    moves : (p : Tallied S) (view : List ℕ) → Moves m p.state view → Moves tallying p view
    moves p view (takes_some x) = takes_some x
    moves p view (sends_some x y) = sends_some x y
    moves p view (stops x) = stops x

    pub tallying-lawful : Lawful tallying Any Sounds
    tallying-lawful =
        record {
          stays_sound = λ events p view views e l a h. law.stays_sound [] p.state view views e l a h;
          takes_in_view = λ p view. law.takes_in_view p.state view;
          moves = λ p view views e l. moves p view (law.moves p.state view views e l);
          due_falls = λ p h e. law.due_falls p.state h e;
        }

    stopped-too : (p : Tallied S) (left : List ℕ) → Stopped m p.state left → Stopped tallying p left
    stopped-too p left (waits e) = waits e
    stopped-too p left (running e) = running e

    grows : (stream : List ℕ) (p : Tallied S) → Sound p.state → p.tally ≤ (uncut tallying p stream).final.tally
    grows stream p g =
        path-keeps tallying tallying-lawful p stream {P = λ events q. p.tally ≤ q.tally}
        (λ events q view views e l a h.
        in-cond (λ (n : ℕ). p.tally ≤ n) (is_one (record { state = q.state; view = view })) (suc q.tally) q.tally (λ t. omega arith) (λ t. h))
        (all_any stream) (omega arith) (uncut-came tallying tallying-lawful p stream).way

    -- a run to where the machine can't act, with nothing left
    module _ {s t : S} {us bs : List ℕ} {n : ℕ} (g : Sound s) (run : Goes tallying (tallied s 0) us bs (tallied t n)) (end : Stopped m t []) where
      whole : uncut tallying (tallied s 0) us ≡ went us bs (tallied t n)
      whole =
          let last = stopped-halts tallying (tallied t n) tallying-lawful (goes-sound tallying tallying-lawful run g) (stopped-too (tallied t n) [] end) in
          ap (uncut tallying (tallied s 0)) (sym (append-nil us)) ∙ goes-uncut tallying tallying-lawful run g []
          ∙ ap (join (went us bs (tallied t n))) last ∙ join-halt (went us bs (tallied t n))

      pub run-times : Times is_one m s us n
      run-times =
          record {
            came = uncut-came m law s us;
            at_end = λ events w.
                let still = (came-agrees m law s g us (all_any us) (halt s) (at-start m law s us)).definition_stops in
                let same = came-stops tallying (tallied s 0) tallying-lawful g us _ (way-tallied w) (stopped-too _ _ still) in
                ap (λ (o : Outcome (Tallied S)). o.final.tally) (same ∙ whole);
            never_more = λ events o w.
                let c = way-tallied w in
                let on = path-continues tallying tallying-lawful (tallied s 0) us g (all_any us) c.way in
                let sound : Sound o.final = path-keeps m law s us law.stays_sound (all_any us) g w in
                let later = grows (drop o.taken us) (tallied o.final (times is_one events)) sound in
                let ends : (uncut tallying (tallied o.final (times is_one events)) (drop o.taken us)).final.tally ≡ n =
                ap (λ (x : Outcome (Tallied S)). x.final.tally) (sym on ∙ whole) in
                omega (arith, later, ends);
          }
