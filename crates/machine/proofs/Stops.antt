-- Where a call and where the uncut definition stop.
-- Assumes nothing.
use Prim.Native.Nat.{ℕ, zero, suc, ◌+◌, ◌-◌, ◌≤◌, ◌<◌}
use native.Mathlib.Omega.{arith}
use native.Mathlib.Nat.{zero-add}
use mathlib.Core.Path.{◌≡◌, refl, sym, ap, ◌∙◌}
use mathlib.Core.Bool.{true, false, ◌&&◌}
use mathlib.Core.List.{List, [], ◌++◌}
use lib.Dec.{leb, ltb}
use lib.ListN.{length, take, drop, length-drop, length-append}
use lib.Seq.{length-take-le, drop-drop}
use borrow.Author.Tests.{leb-true, leb-false, le-leb, le-ltb, lt-ltb, ltb-true, ltb-false}
use borrow.Table.Steps.{cases}
use Rattle.wire.proofs.Tests.{both_true}
use Rattle.machine.specs.Machine.{Need, acts, runs, Machine}
use Rattle.machine.specs.Outcome.{Outcome, halt, acted, join}
use Rattle.machine.specs.Call.{standing_of, standing, act, call, Blocked}
use Rattle.machine.specs.Uncut.{drain_at, drain, feed, uncut}
use Rattle.machine.specs.Lawful.{Every, Moves, takes_some, sends_some, stops, Lawful}
use Rattle.machine.specs.Cuts.{Stopped, waits, running}
use Rattle.machine.proofs.Paths.{every_take, every_drop}
use Rattle.machine.proofs.Actions.{call-run, call-full, call-act, drain-takes-none}

-- no machine runs code and acts
pub not-both : (views : ℕ) → runs ≡ acts views → ⊥
not-both views e = let z : ◌≡◌ {A = ℕ} 0 1 = cc in omega arith

abbrev pub views_of : Need → ℕ
views_of (acts views) = views
views_of runs = 0

-- a standing of 3 says that code runs
pub stands-running : (n : Need) (left : ℕ) → standing_of n left ≡ 3 → n ≡ runs
stands-running runs left e = refl
stands-running (acts views) left e = absurd (cases (ltb left views) (λ t. other 1 (rw t at e) (omega arith)) (λ t. other 2 (rw t at e) (omega arith)))
  where
    other : (k : ℕ) → k ≡ 3 → k < 3 → ⊥
    other k q h = omega arith

-- a standing of 1 says that an action lacks symbols
pub record Lacks (n : Need) (left : ℕ) : Type 0 where
  pub views : ℕ
  pub need-is : n ≡ acts views
  pub less : left < views

pub stands-waiting : (n : Need) (left : ℕ) → standing_of n left ≡ 1 → Lacks n left
stands-waiting runs left e = absurd (let z : ⊥ = omega arith in z)
stands-waiting (acts views) left e =
    cases (ltb left views) (λ t. record { views = views; need-is = refl; less = ltb-true _ _ t }) (λ t. absurd (other 2 (rw t at e) (omega arith)))
  where
    other : (k : ℕ) → k ≡ 1 → 1 < k → ⊥
    other k q h = omega arith

module _ {A S : Type 0} (m : Machine A S) where
  -- waiting for room: an action has its symbols in view
  pub unless-full : (s : S) (left : List A) → ((views : ℕ) → m.need s ≡ acts views → views ≤ length left → ⊥) → Stopped m s left
  unless-full s left h = go (m.need s) refl
    where
      go : (n : Need) → m.need s ≡ n → Stopped m s left
      go runs e = running (rw e refl)
      go (acts views) e =
          cases (ltb (length left) views) (λ t. waits (rw (e, t) refl)) (λ f. absurd (h views e (ltb-false _ _ f)))

  halt-runs : (s : S) (inp : List A) (room : ℕ) → m.need s ≡ runs → Blocked m inp room (halt s)
  halt-runs s inp room e = record { within = omega arith; fits = omega arith; full = λ v f h. absurd (not-both v (sym e ∙ f)) }

  module _ {Good : A → Type 0} {Sound : S → Type 0} (law : Lawful m Good Sound) where
    AllBlocked : (fuel : ℕ) → Type 0
    AllBlocked fuel = (s : S) (inp : List A) (room : ℕ) → length inp + room < fuel → Blocked m inp room (act m fuel (m.need s) s inp room)

    blocked-more : (k : ℕ) → AllBlocked k → AllBlocked (suc k)
    unfolding AllBlocked act
    blocked-more k ih s inp room h = go (m.need s) refl
      where
        go : (n : Need) → m.need s ≡ n → Blocked m inp room (act m (suc k) n s inp room)
        go runs e = halt-runs s inp room e
        go (acts views) e = cases (leb views (length inp) && leb (length said) room) (λ t. rw t (passes t)) (λ f. rw f (stays f))
          where
            view : List A
            view = take views inp

            said : List ℕ
            said = m.says s view

            next : S
            next = m.after s view

            takes : ℕ
            takes = m.takes s view

            inside : views ≤ length inp → takes ≤ views
            inside shown = rw (length-take-le views inp shown) at (law.takes_in_view s view)

            -- the rest of the call, with its input and room, is blocked
            Later : Type 0
            Later = Blocked m (drop takes inp) (room - length said) (act m k (m.need next) next (drop takes inp) (room - length said))

            later : Moves m s view → views ≤ length inp → length said ≤ room → Later
            later (takes_some p) shown fits = ih next (drop takes inp) (room - length said) (omega (arith, inside shown, length-drop takes inp))
            later (sends_some p q) shown fits = ih next (drop takes inp) (room - length said) (omega (arith, q, inside shown, length-drop takes inp))
            later (stops p) shown fits = rw p (over k)
              where
                over : (k : ℕ) → Blocked m (drop takes inp) (room - length said) (act m k runs next (drop takes inp) (room - length said))
                over zero = halt-runs next (drop takes inp) (room - length said) p
                over (suc k) = halt-runs next (drop takes inp) (room - length said) p

            passes : (leb views (length inp) && leb (length said) room) ≡ true →
                Blocked m inp room (join (acted said takes next) (act m k (m.need next) next (drop takes inp) (room - length said)))
            passes t =
                let shown : views ≤ length inp = leb-true _ _ (both_true (leb views (length inp)) (leb (length said) room) t).0 in
                let fits : length said ≤ room = leb-true _ _ (both_true (leb views (length inp)) (leb (length said) room) t).1 in
                let b = later (law.moves s view views e (length-take-le views inp shown)) shown fits in
                let o = act m k (m.need next) next (drop takes inp) (room - length said) in
                let sum : length (said ++ o.replies) ≡ length said + length o.replies = length-append said o.replies in
                record {
                  within = omega (arith, b.within, length-drop takes inp, inside shown);
                  fits = omega (arith, b.fits, sum);
                  full = λ v f l.
                      let l' : v ≤ length (drop o.taken (drop takes inp)) = rw (drop-drop o.taken takes inp) l in
                      let q = rw (drop-drop o.taken takes inp) at (b.full v f l') in
                      omega (arith, q, sum);
                }

            stays : (leb views (length inp) && leb (length said) room) ≡ false → Blocked m inp room (halt s)
            stays f =
                record {
                  within = omega arith;
                  fits = omega arith;
                  full = λ v g l. full v g l;
                }
              where
                full : (v : ℕ) → m.need s ≡ acts v → v ≤ length inp → room < 0 + length (m.says s (take v inp))
                full v g l =
                    let same : acts v ≡ acts views = sym g ∙ e in
                    let v-is : v ≡ views = ap views_of same in
                    let shown : leb views (length inp) ≡ true = le-leb views (length inp) (rw v-is at l) in
                    let short : leb (length said) room ≡ false = rw shown at f in
                    rw v-is (omega (arith, leb-false (length said) room short))

    blocked-all : (k : ℕ) → AllBlocked k
    unfolding AllBlocked
    blocked-all zero s inp room h = absurd (let z : ⊥ = omega arith in z)
    blocked-all (suc k) s inp room h = blocked-more k (blocked-all k) s inp room h

    pub call-blocked : (s : S) (inp : List A) (room : ℕ) → Blocked m inp room (call m s inp room)
    unfolding AllBlocked call
    call-blocked s inp room = blocked-all (suc (length inp + room)) s inp room (omega arith)

    -- once what is due is sent, the next action has something in view
    settled_at : (k : ℕ) (n : Need) (s : S) → Sound s → m.need s ≡ n → m.due s ≡ k → m.need (drain_at m k n s).final ≡ acts 0 → ⊥
    settled_at zero n s g e d f = omega (arith, law.due_falls s g f)
    settled_at (suc k) runs s g e d f = not-both 0 (sym e ∙ f)
    settled_at (suc k) (acts (suc views)) s g e d f = let z : suc views ≡ 0 = ap views_of (sym e ∙ f) in omega arith
    settled_at (suc k) (acts zero) s g e d f =
        settled_at k (m.need (m.after s [])) (m.after s []) (law.stays_sound [] s [] 0 e refl tt g) refl (omega (arith, law.due_falls s g e)) f

    drain-sound-at : (k : ℕ) (n : Need) (s : S) → Sound s → m.need s ≡ n → Sound (drain_at m k n s).final
    drain-sound-at zero n s g e = g
    drain-sound-at (suc k) runs s g e = g
    drain-sound-at (suc k) (acts (suc views)) s g e = g
    drain-sound-at (suc k) (acts zero) s g e =
        drain-sound-at k (m.need (m.after s [])) (m.after s []) (law.stays_sound [] s [] 0 e refl tt g) refl

    -- from such a state the uncut definition ends where the stream is too short, or where code runs
    AllStopped : (fuel : ℕ) → Type 0
    AllStopped fuel = (s : S) → Sound s → (m.need s ≡ acts 0 → ⊥) → (stream : List A) → Every Good stream → length stream < fuel →
        let o = feed m fuel (m.need s) s stream in
        Stopped m o.final (drop o.taken stream)

    stopped_more : (k : ℕ) → AllStopped k → AllStopped (suc k)
    unfolding AllStopped feed drain
    stopped_more k ih s g h stream w f = go (m.need s) refl
      where
        go : (n : Need) → m.need s ≡ n → Stopped m (feed m (suc k) n s stream).final (drop (feed m (suc k) n s stream).taken stream)
        go runs e = running (rw e refl)
        go (acts zero) e = absurd (h e)
        go (acts (suc views)) e = cases (leb (suc views) (length stream)) (λ t. rw t (passes t)) (λ n. rw n (waits (rw (e, lt-ltb _ _ (leb-false _ _ n)) refl)))
          where
            view : List A
            view = take (suc views) stream

            next : S
            next = m.after s view

            takes : ℕ
            takes = m.takes s view

            due : Outcome S
            due = drain_at m (m.due next) (m.need next) next

            last : Outcome S
            last = feed m k (m.need due.final) due.final (drop takes stream)

            passes : leb (suc views) (length stream) ≡ true →
                Stopped m last.final (drop (takes + (due.taken + last.taken)) stream)
            passes t =
                let shown : suc views ≤ length stream = leb-true _ _ t in
                let v : length view ≡ suc views = length-take-le (suc views) stream shown in
                let sound : Sound next = law.stays_sound [] s view (suc views) e v (every_take Good (suc views) stream w) g in
                let none : due.taken ≡ 0 = drain-takes-none m (m.due next) (m.need next) next in
                rw (none, zero-add, ← drop-drop last.taken takes stream) (moved (law.moves s view (suc views) e v) shown sound)
              where
                moved : Moves m s view → suc views ≤ length stream → Sound next → Stopped m last.final (drop last.taken (drop takes stream))
                moved (takes_some p) shown sound =
                    ih due.final (drain-sound-at (m.due next) (m.need next) next sound refl) (settled_at (m.due next) (m.need next) next sound refl refl)
                    (drop takes stream) (every_drop Good takes stream w) (omega (arith, shown, length-drop takes stream))
                moved (sends_some p q) shown sound = absurd (let z : ⊥ = omega (arith, ap length p, length-take-le (suc views) stream shown) in z)
                moved (stops p) shown sound = ended (m.due next) k
                  where
                    ended : (d k : ℕ) → let u = drain_at m d (m.need next) next in let o = feed m k (m.need u.final) u.final (drop takes stream) in
                        Stopped m o.final (drop o.taken (drop takes stream))
                    ended zero zero = running (rw p refl)
                    ended zero (suc k) = rw p (running (rw p refl))
                    ended (suc d) zero = rw p (running (rw p refl))
                    ended (suc d) (suc k) = rw p (rw p (running (rw p refl)))

    stopped-all : (k : ℕ) → AllStopped k
    unfolding AllStopped
    stopped-all zero s g h stream w f = absurd (let z : ⊥ = omega arith in z)
    stopped-all (suc k) s g h stream w f = stopped_more k (stopped-all k) s g h stream w f

    pub uncut-stops : (s : S) → Sound s → (stream : List A) → Every Good stream →
        Stopped m (uncut m s stream).final (drop (uncut m s stream).taken stream)
    unfolding AllStopped uncut drain
    uncut-stops s g stream w =
        let due = drain_at m (m.due s) (m.need s) s in
        rw (drain-takes-none m (m.due s) (m.need s) s, zero-add)
        (stopped-all (suc (length stream)) due.final (drain-sound-at (m.due s) (m.need s) s g refl) (settled_at (m.due s) (m.need s) s g refl refl) stream w (omega arith))

    -- a call with no room that takes nothing and then waits has waited from the start
    pub still : (s : S) (inp : List A) → let p = call m s inp 0 in p.taken ≡ 0 → standing m p.final (drop p.taken inp) ≡ 1 → Stopped m s inp
    still s inp none w = go (m.need s) refl
      where
        two : (k : ℕ) → k ≡ 1 → 1 < k → Stopped m s inp
        two k q h = absurd (let z : ⊥ = omega arith in z)

        go : (n : Need) → m.need s ≡ n → Stopped m s inp
        go runs e = running (rw e refl)
        go (acts views) e = cases (ltb (length inp) views) (λ t. waits (rw (e, t) refl)) (λ f. shows (ltb-false _ _ f))
          where
            view : List A
            view = take views inp

            said : List ℕ
            said = m.says s view

            next : S
            next = m.after s view

            shows : views ≤ length inp → Stopped m s inp
            shows shown = cases (leb (length said) 0) (λ t. fits (leb-true _ _ t)) (λ f. full (leb-false _ _ f))
              where
                full : 0 < length said → Stopped m s inp
                full h = two 2 (rw (call-full m s inp 0 views e h, e, le-ltb _ _ shown) at w) (omega arith)

                fits : length said ≤ 0 → Stopped m s inp
                fits h = moved (law.moves s view views e (length-take-le views inp shown))
                  where
                    one : call m s inp 0 ≡ join (acted said (m.takes s view) next) (call m next (drop (m.takes s view) inp) (0 - length said))
                    one = call-act m law s inp 0 views e shown h

                    moved : Moves m s view → Stopped m s inp
                    moved (takes_some p) = absurd (let z : m.takes s view + (call m next (drop (m.takes s view) inp) (0 - length said)).taken ≡ 0 = rw one at none in let y : ⊥ = omega arith in y)
                    moved (sends_some p q) = absurd (let y : ⊥ = omega (arith, h, q) in y)
                    moved (stops p) = two 3 (rw (one, call-run m next (drop (m.takes s view) inp) (0 - length said) p, p) at w) (omega arith)
