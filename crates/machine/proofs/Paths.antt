-- Calls, lists of calls and the uncut definition go paths of actions; the uncut definition goes on from the end of every path.
-- Assumes nothing.
use Prim.Native.Nat.{ℕ, zero, suc, ◌+◌, ◌-◌, ◌≤◌}
use native.Mathlib.Omega.{arith}
use native.Mathlib.Nat.{add-zero}
use mathlib.Core.Path.{◌≡◌, refl, sym, ap, subst, ◌∙◌}
use mathlib.Core.Bool.{true, ◌&&◌}
use mathlib.Core.List.{List, [], ◌∷◌}
use lib.Dec.{leb}
use lib.ListN.{length, take, drop, length-take, length-drop, take-append-drop}
use lib.Seq.{take-length, length-take-le, take-append-le, drop-append-le, drop-drop}
use borrow.Author.Tests.{leb-true}
use borrow.Table.Steps.{cases}
use Rattle.wire.proofs.Tests.{both_true}
use Rattle.machine.specs.Machine.{Need, acts, runs, Machine}
use Rattle.machine.specs.Outcome.{Outcome, halt, acted, join}
use Rattle.machine.specs.Call.{Call, offered, refused, act, call, calls}
use Rattle.machine.specs.Uncut.{drain_at, drain, feed, uncut}
use Rattle.machine.specs.History.{Event, Way, here, more, Came, trace, Leads}
use Rattle.machine.specs.Lawful.{Every, Kept, Lawful, Any}
use Rattle.machine.specs.Cuts.{Begins}
use Rattle.machine.proofs.Outcomes.{join-assoc, halt-join, join-halt}
use Rattle.machine.proofs.Actions.{drain-takes-none, uncut-act}

-- parts of a list of good symbols are good
pub every_take : {A : Type 0} (Good : A → Type 0) (n : ℕ) (xs : List A) → Every Good xs → Every Good (take n xs)
every_take Good zero xs w = tt
every_take Good (suc n) [] w = tt
every_take Good (suc n) (x ∷ xs) w = (w.0, every_take Good n xs w.1)

pub every_drop : {A : Type 0} (Good : A → Type 0) (n : ℕ) (xs : List A) → Every Good xs → Every Good (drop n xs)
every_drop Good zero xs w = w
every_drop Good (suc n) [] w = tt
every_drop Good (suc n) (x ∷ xs) w = every_drop Good n xs w.1

-- a front of a list shows the list's first symbols, and what is dropped of the one is dropped of the other
pub begins-take : {A : Type 0} (front whole : List A) (n : ℕ) → Begins front whole → n ≤ length front → take n front ≡ take n whole
begins-take front whole n b h = rw b.is (sym (take-append-le n front b.back h))

pub begins-drop : {A : Type 0} (front whole : List A) (n : ℕ) → Begins front whole → n ≤ length front → Begins (drop n front) (drop n whole)
begins-drop front whole n b h = record { back = b.back; is = ap (drop n) b.is ∙ drop-append-le n front b.back h }

module _ {A S : Type 0} (m : Machine A S) {Good : A → Type 0} {Sound : S → Type 0} (law : Lawful m Good Sound) (start : S) (stream : List A) where
  -- what every action keeps holds at the end of a path
  pub path-keeps : {P : List (Event A S) → S → Type 0} → Kept m Good P → Every Good stream → P [] start →
      {events : List (Event A S)} {o : Outcome S} → Way m start stream events o → P events o.final
  path-keeps k w h here = h
  path-keeps k w h (more {events = events} {o = o} {views = views} {view = view} p e v l) =
      k events o.final view views e l (rw v (every_take Good views (drop o.taken stream) (every_drop Good o.taken stream w))) (path-keeps k w h p)

  -- no more is taken than there is
  pub path-within : {events : List (Event A S)} {o : Outcome S} → Way m start stream events o → o.taken ≤ length stream
  path-within here = omega arith
  path-within (more {o = o} {views = views} {view = view} p e v l) =
      let left : length view ≤ length stream - o.taken = rw v (omega (arith, length-take views (drop o.taken stream), length-drop o.taken stream)) in
      omega (arith, path-within p, left, law.takes_in_view o.final view)

  -- one action more
  pub came-on : (o : Outcome S) → Came m start stream o → (views : ℕ) → m.need o.final ≡ acts views →
      (view : List A) → view ≡ take views (drop o.taken stream) → length view ≡ views →
      Came m start stream (join o (acted (m.says o.final view) (m.takes o.final view) (m.after o.final view)))
  came-on o c views e view v l = record { events = _; way = more c.way e v l }

  -- `fuel` actions on a front of what is not yet taken
  Acts : (fuel : ℕ) → Type 0
  Acts fuel = (o : Outcome S) → Came m start stream o → (inp : List A) → Begins inp (drop o.taken stream) → (room : ℕ) →
      Came m start stream (join o (act m fuel (m.need o.final) o.final inp room))

  acts-more : (k : ℕ) → Acts k → Acts (suc k)
  unfolding Acts act
  acts-more k ih o c inp b room = go (m.need o.final) refl
    where
      stays : Came m start stream (join o (halt o.final))
      stays = subst (λ (x : Outcome S). Came m start stream x) (sym (join-halt o)) c

      go : (n : Need) → m.need o.final ≡ n → Came m start stream (join o (act m (suc k) n o.final inp room))
      go runs e = stays
      go (acts views) e = cases (leb views (length inp) && leb (length said) room) passes (λ f. rw f stays)
        where
          view : List A
          view = take views inp

          said : List ℕ
          said = m.says o.final view

          takes : ℕ
          takes = m.takes o.final view

          next : Outcome S
          next = acted said takes (m.after o.final view)

          passes : (leb views (length inp) && leb (length said) room) ≡ true →
              Came m start stream (join o (act m (suc k) (acts views) o.final inp room))
          passes t =
              let shown : views ≤ length inp = leb-true _ _ (both_true (leb views (length inp)) (leb (length said) room) t).0 in
              let inside : takes ≤ views = rw (length-take-le views inp shown) at (law.takes_in_view o.final view) in
              let on = came-on o c views e view (begins-take inp (drop o.taken stream) views b shown) (length-take-le views inp shown) in
              let left : Begins (drop takes inp) (drop (o.taken + takes) stream) = rw (← drop-drop takes o.taken stream) (begins-drop inp (drop o.taken stream) takes b (omega arith)) in
              let rest = ih (join o next) on (drop takes inp) left (room - length said) in
              rw t (subst (λ (x : Outcome S). Came m start stream x) (join-assoc o next _) rest)

  acts-all : (k : ℕ) → Acts k
  unfolding Acts act
  acts-all zero o c inp b room = subst (λ (x : Outcome S). Came m start stream x) (sym (join-halt o)) c
  acts-all (suc k) o c inp b room = acts-more k (acts-all k) o c inp b room

  -- a call goes on from where a path ended
  pub call-came : (o : Outcome S) → Came m start stream o → (shown room : ℕ) →
      Came m start stream (join o (call m o.final (take shown (drop o.taken stream)) room))
  unfolding Acts call
  call-came o c shown room =
      let rest = drop o.taken stream in
      let front : Begins (take shown rest) rest = record { back = drop shown rest; is = sym (take-append-drop shown rest) } in
      acts-all (suc (length (take shown rest) + room)) o c (take shown rest) front room

  pub at-start : Came m start stream (halt start)
  at-start = record { events = []; way = here }

  -- what every action keeps, a call keeps
  pub call-keeps : {P : S → Type 0} → Kept m Good (λ _ s. P s) → Every Good stream → P start → (room : ℕ) → P (call m start stream room).final
  call-keeps k w h room =
      let c = call-came (halt start) at-start (length stream) room in
      path-keeps k w h (rw (take-length stream, halt-join start (call m start stream room)) at c).way

  -- and so does a list of calls
  pub calls-came : (cs : List Call) (o : Outcome S) → Came m start stream o → Came m start stream (join o (calls m o.final (drop o.taken stream) cs))
  unfolding calls
  calls-came [] o c = subst (λ (x : Outcome S). Came m start stream x) (sym (join-halt o)) c
  calls-came (refused ∷ cs) o c = calls-came cs o c
  calls-came (offered shown room ∷ cs) o c =
      let rest = drop o.taken stream in
      let p = call m o.final (take shown rest) room in
      let on = calls-came cs (join o p) (call-came o c shown room) in
      let same : drop (o.taken + p.taken) stream ≡ drop p.taken rest = sym (drop-drop p.taken o.taken stream) in
      subst (λ (x : Outcome S). Came m start stream x) (join-assoc o p (calls m p.final (drop p.taken rest) cs)) (rw same at on)

  -- the uncut definition goes on from the end of every path
  pub path-continues : Sound start → Every Good stream → {events : List (Event A S)} {o : Outcome S} → Way m start stream events o →
      uncut m start stream ≡ join o (uncut m o.final (drop o.taken stream))
  path-continues g w here = sym (halt-join start (uncut m start stream))
  path-continues g w (more {o = o} {views = views} {view = view} p e v l) =
      let rest = drop o.taken stream in
      let sound : Sound o.final = path-keeps law.stays_sound w g p in
      let short : length (take views rest) ≡ views = rw (← v) l in
      let shown : views ≤ length rest = enough views rest short in
      let one = uncut-act m law o.final sound rest views e shown in
      let takes = m.takes o.final (take views rest) in
      path-continues g w p
      ∙ ap (join o) one
      ∙ rw (v, ← drop-drop takes o.taken stream) (sym (join-assoc o (acted (m.says o.final (take views rest)) takes (m.after o.final (take views rest))) (uncut m (m.after o.final (take views rest)) (drop takes rest))))
    where
      enough : (n : ℕ) (xs : List A) → length (take n xs) ≡ n → n ≤ length xs
      enough n xs q = omega (arith, length-take n xs)

  -- the actions with nothing in view, from the end of a path
  drain-came : (k : ℕ) (o : Outcome S) → Came m start stream o → Came m start stream (join o (drain_at m k (m.need o.final) o.final))
  drain-came zero o c = subst (λ (x : Outcome S). Came m start stream x) (sym (join-halt o)) c
  drain-came (suc k) o c = go (m.need o.final) refl (λ p q. drain-came k p q)
    where
      stays : Came m start stream (join o (halt o.final))
      stays = subst (λ (x : Outcome S). Came m start stream x) (sym (join-halt o)) c

      go : (n : Need) → m.need o.final ≡ n →
          ((p : Outcome S) → Came m start stream p → Came m start stream (join p (drain_at m k (m.need p.final) p.final))) →
          Came m start stream (join o (drain_at m (suc k) n o.final))
      go runs e ih = stays
      go (acts (suc views)) e ih = stays
      go (acts zero) e ih =
          let next = m.after o.final [] in
          let none : m.takes o.final [] ≡ 0 = omega (arith, law.takes_in_view o.final []) in
          let one = acted (m.says o.final []) 0 next in
          subst (λ (x : Outcome S). Came m start stream x) (join-assoc o one (drain_at m k (m.need next) next)) (ih (join o one) (rw none at (came-on o c 0 e [] refl refl)))

  -- the uncut definition from a state where nothing is due
  Feeds : (fuel : ℕ) → Type 0
  Feeds fuel = (o : Outcome S) → Came m start stream o → Came m start stream (join o (feed m fuel (m.need o.final) o.final (drop o.taken stream)))

  feeds-more : (k : ℕ) → Feeds k → Feeds (suc k)
  unfolding Feeds feed drain
  feeds-more k ih o c = go (m.need o.final) refl
    where
      rest : List A
      rest = drop o.taken stream

      stays : Came m start stream (join o (halt o.final))
      stays = subst (λ (x : Outcome S). Came m start stream x) (sym (join-halt o)) c

      go : (n : Need) → m.need o.final ≡ n → Came m start stream (join o (feed m (suc k) n o.final rest))
      go runs e = stays
      go (acts zero) e = stays
      go (acts (suc views)) e = cases (leb (suc views) (length rest)) passes (λ f. rw f stays)
        where
          view : List A
          view = take (suc views) rest

          next : S
          next = m.after o.final view

          takes : ℕ
          takes = m.takes o.final view

          one : Outcome S
          one = acted (m.says o.final view) takes next

          due : Outcome S
          due = drain_at m (m.due next) (m.need next) next

          passes : leb (suc views) (length rest) ≡ true → Came m start stream (join o (feed m (suc k) (acts (suc views)) o.final rest))
          passes t =
              let on = came-on o c (suc views) e view refl (length-take-le (suc views) rest (leb-true _ _ t)) in
              let drained = drain-came (m.due next) (join o one) on in
              let last = ih (join (join o one) due) drained in
              let same : drop (o.taken + takes + due.taken) stream ≡ drop takes rest =
              rw (drain-takes-none m (m.due next) (m.need next) next, add-zero) (sym (drop-drop takes o.taken stream)) in
              let final = feed m k (m.need due.final) due.final (drop takes rest) in
              rw t (subst (λ (x : Outcome S). Came m start stream x) (join-assoc (join o one) due final ∙ join-assoc o one (join due final)) (rw same at last))

  feeds-all : (k : ℕ) → Feeds k
  unfolding Feeds feed
  feeds-all zero o c = subst (λ (x : Outcome S). Came m start stream x) (sym (join-halt o)) c
  feeds-all (suc k) o c = feeds-more k (feeds-all k) o c

  pub uncut-came : Came m start stream (uncut m start stream)
  unfolding Feeds uncut drain
  uncut-came =
      let due = drain_at m (m.due start) (m.need start) start in
      let drained = rw (halt-join start due) at (drain-came (m.due start) (halt start) at-start) in
      let same : drop due.taken stream ≡ stream = rw (drain-takes-none m (m.due start) (m.need start) start) refl in
      rw same at (feeds-all (suc (length stream)) due drained)

-- a trace leads somewhere
pub traced : {A S : Type 0} (m : Machine A S) (start : S) (stream : List A) (fuel : ℕ) (events : List (Event A S)) (o : Outcome S) →
    Way m start stream events o → Leads m start stream (trace m fuel (m.need o.final) o.final (drop o.taken stream) events)
unfolding trace
traced m start stream zero events o p = record { outcome = _; way = p }
traced {A} {S} m start stream (suc fuel) events o p = go (m.need o.final) refl (traced m start stream fuel)
  where
    Later : Type 0
    Later = (before : List (Event A S)) (q : Outcome S) → Way m start stream before q →
        Leads m start stream (trace m fuel (m.need q.final) q.final (drop q.taken stream) before)

    rest : List A
    rest = drop o.taken stream

    go : (n : Need) → m.need o.final ≡ n → Later → Leads m start stream (trace m (suc fuel) n o.final rest events)
    go runs e ih = record { outcome = _; way = p }
    go (acts views) e ih = cases (leb views (length rest)) (λ t. rw t (goes t)) (λ f. rw f (record { outcome = _; way = p }))
      where
        view : List A
        view = take views rest

        goes : leb views (length rest) ≡ true →
            Leads m start stream (trace m fuel (m.need (m.after o.final view)) (m.after o.final view) (drop (m.takes o.final view) rest) (record { state = o.final; view = view } ∷ events))
        goes t =
            rw (drop-drop (m.takes o.final view) o.taken stream)
            (ih _ _ (more p e refl (length-take-le views rest (leb-true _ _ t))))

-- any symbols are any
pub all_any : {A : Type 0} (xs : List A) → Every Any xs
all_any [] = tt
all_any (x ∷ xs) = (tt, all_any xs)
