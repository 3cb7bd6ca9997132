-- A call and the uncut definition, action by action.
-- Assumes nothing.
use Prim.Native.Nat.{ℕ, zero, suc, ◌+◌, ◌-◌, ◌≤◌, ◌<◌}
use native.Mathlib.Omega.{arith}
use mathlib.Core.Path.{◌≡◌, refl, sym, ap, ◌∙◌}
use mathlib.Core.Bool.{and-false}
use mathlib.Core.List.{List, []}
use lib.Dec.{leb}
use lib.ListN.{length, take, drop, length-drop}
use lib.Seq.{length-take-le}
use borrow.Author.Tests.{leb-true, le-leb, lt-leb}
use Rattle.wire.proofs.Tests.{both_true}
use Rattle.machine.specs.Machine.{Need, acts, runs, Machine}
use Rattle.machine.specs.Outcome.{halt, acted, join}
use Rattle.machine.specs.Call.{act, call}
use Rattle.machine.specs.Uncut.{drain_at, drain, feed, uncut}
use Rattle.machine.specs.Lawful.{Moves, takes_some, sends_some, stops, Lawful}
use Rattle.machine.proofs.Outcomes.{join-assoc, halt-join, cond_same}

module _ {A S : Type 0} (m : Machine A S) where
  act_run : (k : ℕ) (s : S) (inp : List A) (room : ℕ) → act m k runs s inp room ≡ halt s
  unfolding act
  act_run zero s inp room = refl
  act_run (suc k) s inp room = refl

  pub call-run : (s : S) (inp : List A) (room : ℕ) → m.need s ≡ runs → call m s inp room ≡ halt s
  unfolding call
  call-run s inp room e = rw e (act_run (suc (length inp + room)) s inp room)

  pub call-short : (s : S) (inp : List A) (room views : ℕ) → m.need s ≡ acts views → length inp < views → call m s inp room ≡ halt s
  unfolding call act
  call-short s inp room views e h = rw e (simp (lt-leb _ _ h))

  pub call-full : (s : S) (inp : List A) (room views : ℕ) → m.need s ≡ acts views → room < length (m.says s (take views inp)) →
      call m s inp room ≡ halt s
  unfolding call act
  call-full s inp room views e h = rw e (simp (lt-leb _ _ h, and-false))

  pub drain-takes-none : (k : ℕ) (n : Need) (s : S) → (drain_at m k n s).taken ≡ 0
  drain-takes-none zero n s = refl
  drain-takes-none (suc k) runs s = refl
  drain-takes-none (suc k) (acts (suc views)) s = refl
  drain-takes-none (suc k) (acts zero) s = simp (drain-takes-none k (m.need (m.after s [])) (m.after s []))

  module _ {Good : A → Type 0} {Sound : S → Type 0} (law : Lawful m Good Sound) where
    -- the actions that follow one with this view, where the fuel doesn't matter for fewer symbols and less room
    Same : (k l : ℕ) → Type 0
    Same k l = (s : S) (inp : List A) (room : ℕ) → length inp + room < k → length inp + room < l →
        act m k (m.need s) s inp room ≡ act m l (m.need s) s inp room

    fuel-later : (k l : ℕ) → Same k l → (s : S) (inp : List A) (room views : ℕ) → m.need s ≡ acts views → views ≤ length inp →
        length (m.says s (take views inp)) ≤ room →
        let next = m.after s (take views inp) in
        let takes = m.takes s (take views inp) in
        let left = room - length (m.says s (take views inp)) in
        (length (drop takes inp) + left < length inp + room → length (drop takes inp) + left < k) →
        (length (drop takes inp) + left < length inp + room → length (drop takes inp) + left < l) →
        act m k (m.need next) next (drop takes inp) left ≡ act m l (m.need next) next (drop takes inp) left
    unfolding Same
    fuel-later k l same s inp room views e shown fits h g = moved (law.moves s view views e (length-take-le views inp shown))
      where
        view : List A
        view = take views inp

        left : ℕ
        left = room - length (m.says s view)

        takes : ℕ
        takes = m.takes s view

        inside : takes ≤ views
        inside = rw (length-take-le views inp shown) at (law.takes_in_view s view)

        rest : length (drop takes inp) ≡ length inp - takes
        rest = length-drop takes inp

        moved : Moves m s view → act m k (m.need (m.after s view)) (m.after s view) (drop takes inp) left
            ≡ act m l (m.need (m.after s view)) (m.after s view) (drop takes inp) left
        moved (takes_some p) = let less : length (drop takes inp) + left < length inp + room = omega (arith, shown, fits, inside, rest) in same _ _ _ (h less) (g less)
        moved (sends_some p q) = let some : 0 < length (m.says s view) = q in let less : length (drop takes inp) + left < length inp + room = omega (arith, shown, fits, inside, rest) in same _ _ _ (h less) (g less)
        moved (stops p) = rw p (act_run k _ _ _ ∙ sym (act_run l _ _ _))

    fuel-step : (k l : ℕ) → Same k l → Same (suc k) (suc l)
    unfolding Same act
    fuel-step k l same s inp room h g = go (m.need s) refl
      where
        go : (n : Need) → m.need s ≡ n → act m (suc k) n s inp room ≡ act m (suc l) n s inp room
        go runs e = refl
        go (acts views) e = cond_same _ _ _ _ (λ t.
            let said = m.says s (take views inp) in
            let both = both_true (leb views (length inp)) (leb (length said) room) t in
            ap (join (acted said (m.takes s (take views inp)) (m.after s (take views inp))))
            (fuel-later k l same s inp room views e (leb-true _ _ both.0) (leb-true _ _ both.1) (λ less. omega (arith, less)) (λ less. omega (arith, less))))

    -- more actions than can be made change nothing
    act-fuel : (k l : ℕ) → Same k l
    unfolding Same
    act-fuel zero l s inp room h g = absurd (let z : ⊥ = omega arith in z)
    act-fuel (suc k) zero s inp room h g = absurd (let z : ⊥ = omega arith in z)
    act-fuel (suc k) (suc l) s inp room h g = fuel-step k l (act-fuel k l) s inp room h g

    -- a call's first action
    pub call-act : (s : S) (inp : List A) (room views : ℕ) → m.need s ≡ acts views → views ≤ length inp →
        length (m.says s (take views inp)) ≤ room →
        let next = m.after s (take views inp) in
        let said = m.says s (take views inp) in
        let takes = m.takes s (take views inp) in
        call m s inp room ≡ join (acted said takes next) (call m next (drop takes inp) (room - length said))
    unfolding Same call act
    call-act s inp room views e shown fits =
        let said = m.says s (take views inp) in
        let takes = m.takes s (take views inp) in
        rw e (simp (le-leb _ _ shown, le-leb _ _ fits)
        (ap (join (acted said takes (m.after s (take views inp))))
        (fuel-later (length inp + room) (suc (length (drop takes inp) + (room - length said))) (act-fuel _ _) s inp room views e shown fits
        (λ less. less) (λ less. omega arith))))

    -- what is due, with nothing due and with one action more
    drain-take : (s : S) (views : ℕ) → m.need s ≡ acts (suc views) → drain m s ≡ halt s
    unfolding drain
    drain-take s views e = rw e (go (m.due s))
      where
        go : (k : ℕ) → drain_at m k (acts (suc views)) s ≡ halt s
        go zero = refl
        go (suc k) = refl

    drain-run : (s : S) → m.need s ≡ runs → drain m s ≡ halt s
    unfolding drain
    drain-run s e = rw e (go (m.due s))
      where
        go : (k : ℕ) → drain_at m k runs s ≡ halt s
        go zero = refl
        go (suc k) = refl

    drain-send : (s : S) → Sound s → m.need s ≡ acts 0 →
        drain m s ≡ join (acted (m.says s []) 0 (m.after s [])) (drain m (m.after s []))
    unfolding drain
    drain-send s g e = rw (e, law.due_falls s g e)

    -- the uncut definition's fuel suffices too
    SameFeed : (k l : ℕ) → Type 0
    SameFeed k l = (s : S) (stream : List A) → length stream < k → length stream < l → feed m k (m.need s) s stream ≡ feed m l (m.need s) s stream

    feed-run : (k : ℕ) (s : S) (stream : List A) → feed m k runs s stream ≡ halt s
    unfolding feed
    feed-run zero s stream = refl
    feed-run (suc k) s stream = refl

    -- after one action with a view: what is due, and then any fuel that is enough
    feed-moved : (k l : ℕ) → SameFeed k l → (s : S) (stream : List A) (views : ℕ) → m.need s ≡ acts (suc views) → suc views ≤ length stream →
        let takes = m.takes s (take (suc views) stream) in
        length stream ≤ k → (0 < takes → length stream - takes < l) →
        let d = drain m (m.after s (take (suc views) stream)) in
        feed m k (m.need d.final) d.final (drop takes stream) ≡ feed m l (m.need d.final) d.final (drop takes stream)
    unfolding SameFeed
    feed-moved k l same s stream views e shown h g = moved (law.moves s view (suc views) e (length-take-le (suc views) stream shown))
      where
        view : List A
        view = take (suc views) stream

        next : S
        next = m.after s view

        takes : ℕ
        takes = m.takes s view

        left : length (drop takes stream) ≡ length stream - takes
        left = length-drop takes stream

        inside : takes ≤ suc views
        inside = rw (length-take-le (suc views) stream shown) at (law.takes_in_view s view)

        moved : Moves m s view →
            feed m k (m.need (drain m next).final) (drain m next).final (drop takes stream)
            ≡ feed m l (m.need (drain m next).final) (drain m next).final (drop takes stream)
        moved (takes_some p) = same _ _ (omega (arith, shown, inside, left)) (omega (arith, left, g p))
        moved (sends_some p q) = absurd (let z : ⊥ = omega (arith, ap length p, length-take-le (suc views) stream shown) in z)
        moved (stops p) = rw (drain-run next p, p) (feed-run k next _ ∙ sym (feed-run l next _))

    feed-step : (k l : ℕ) → SameFeed k l → SameFeed (suc k) (suc l)
    unfolding SameFeed feed
    feed-step k l same s stream h g = go (m.need s) refl
      where
        go : (n : Need) → m.need s ≡ n → feed m (suc k) n s stream ≡ feed m (suc l) n s stream
        go runs e = refl
        go (acts zero) e = refl
        go (acts (suc views)) e =
            cond_same _ _ _ _ (λ t.
            let shown : suc views ≤ length stream = leb-true _ _ t in
            rw (feed-moved k l same s stream views e shown (omega arith) (λ p. omega (arith, shown))) refl)

    feed-fuel : (k l : ℕ) → SameFeed k l
    unfolding SameFeed
    feed-fuel zero l s stream h g = absurd (let z : ⊥ = omega arith in z)
    feed-fuel (suc k) zero s stream h g = absurd (let z : ⊥ = omega arith in z)
    feed-fuel (suc k) (suc l) s stream h g = feed-step k l (feed-fuel k l) s stream h g

    feed-some : (k : ℕ) (s : S) (stream : List A) (views : ℕ) → suc views ≤ length stream →
        let view = take (suc views) stream in
        let takes = m.takes s view in
        let d = drain m (m.after s view) in
        feed m (suc k) (acts (suc views)) s stream
        ≡ join (acted (m.says s view) takes (m.after s view)) (join d (feed m k (m.need d.final) d.final (drop takes stream)))
    unfolding feed
    feed-some k s stream views h = simp (le-leb _ _ h)

    -- the uncut definition stops where code runs, and where the stream is too short
    pub uncut-run : (s : S) (stream : List A) → m.need s ≡ runs → uncut m s stream ≡ halt s
    unfolding uncut
    uncut-run s stream e = rw (drain-run s e, e, feed-run (suc (length stream)) s stream) (halt-join s (halt s))

    pub uncut-short : (s : S) (stream : List A) (views : ℕ) → m.need s ≡ acts views → length stream < views → uncut m s stream ≡ halt s
    unfolding uncut feed
    uncut-short s stream zero e h = absurd (let z : ⊥ = omega arith in z)
    uncut-short s stream (suc views) e h = rw (drain-take s views e, e) (simp (lt-leb _ _ h) (halt-join s (halt s)))

    -- its first action
    pub uncut-act : (s : S) → Sound s → (stream : List A) (views : ℕ) → m.need s ≡ acts views → views ≤ length stream →
        let view = take views stream in
        let takes = m.takes s view in
        uncut m s stream ≡ join (acted (m.says s view) takes (m.after s view)) (uncut m (m.after s view) (drop takes stream))
    unfolding uncut
    uncut-act s g stream zero e h =
        let next = m.after s [] in
        let d = drain m next in
        let none : m.takes s [] ≡ 0 = omega (arith, law.takes_in_view s []) in
        rw (drain-send s g e, none) (join-assoc (acted (m.says s []) 0 next) d (feed m (suc (length stream)) (m.need d.final) d.final stream))
    uncut-act s g stream (suc views) e h = rw (drain-take s views e, e) (halt-join s _ ∙ first)
      where
        view : List A
        view = take (suc views) stream

        next : S
        next = m.after s view

        takes : ℕ
        takes = m.takes s view

        left : length (drop takes stream) ≡ length stream - takes
        left = length-drop takes stream

        first : feed m (suc (length stream)) (acts (suc views)) s stream
            ≡ join (acted (m.says s view) takes next)
            (join (drain m next) (feed m (suc (length (drop takes stream))) (m.need (drain m next).final) (drain m next).final (drop takes stream)))
        first =
            feed-some (length stream) s stream views h
            ∙ ap (λ o. join (acted (m.says s view) takes next) (join (drain m next) o))
            (feed-moved (length stream) (suc (length (drop takes stream))) (feed-fuel _ _) s stream views e h (omega arith) (λ p. omega (arith, left)))
