-- What a call brings: it does nothing, or the machine has taken or sent a byte or comes to its end. One with room for a byte and all that
-- waits in view does nothing only if the machine can't go on.
-- Assumes nothing.
use Prim.Native.Nat.{ℕ, ◌+◌, ◌-◌, ◌≤◌, ◌<◌}
use native.Mathlib.Omega.{arith}
use mathlib.Core.Path.{◌≡◌, refl, ap, ◌∙◌}
use mathlib.Core.Bool.{true}
use mathlib.Core.List.{List, ◌++◌}
use lib.Dec.{leb, ltb}
use lib.ListN.{length, take, drop, length-append, length-take}
use lib.Seq.{length-take-le, take_all}
use borrow.Author.Tests.{leb-true, ltb-true, ltb-false}
use borrow.Table.Steps.{cases}
use Rattle.wire.proofs.Tests.{both_true}
use Rattle.machine.specs.Machine.{Need, acts, runs, Machine}
use Rattle.machine.specs.Outcome.{Outcome, halt, acted, join}
use Rattle.machine.specs.Call.{call}
use Rattle.machine.specs.History.{Came}
use Rattle.machine.specs.Lawful.{Moves, takes_some, sends_some, stops, Lawful}
use Rattle.machine.specs.Cuts.{Begins, Stopped, waits, running}
use Rattle.machine.proofs.Actions.{call-run, call-short, call-full, call-act}
use Rattle.machine.proofs.Paths.{path-within}
use Rattle.machine.proofs.Stops.{stands-running, stands-waiting, unless-full}
use Rattle.joining.specs.Rounds.{is_full}
use Rattle.joining.specs.Diligence.{Brief}

-- one once no action follows
abbrev pub at_end : Need → ℕ
at_end (acts views) = 0
at_end runs = 1

at_most_one : (n : Need) → at_end n ≤ 1
at_most_one (acts views) = omega arith
at_most_one runs = omega arith

module _ {S : Type 0} (m : Machine ℕ S) where
  -- how far a machine has come
  abbrev pub work : Outcome S → ℕ
  work o = o.taken + length o.replies + at_end (m.need o.final)

  -- p follows on o
  pub data Brings (o p : Outcome S) : Type 0 where
    nothing : p ≡ halt o.final → Brings o p
    further : work o < work (join o p) → Brings o p

  module _ {Good : ℕ → Type 0} {Sound : S → Type 0} (law : Lawful m Good Sound) where
    -- an action that has its symbols in view and its room
    acts-further : (o : Outcome S) (inp : List ℕ) (room views : ℕ) → m.need o.final ≡ acts views → views ≤ length inp →
        length (m.says o.final (take views inp)) ≤ room → work o < work (join o (call m o.final inp room))
    acts-further o inp room views e shown fits = rw one (moved (law.moves s view views e (length-take-le views inp shown)))
      where
        s : S
        s = o.final

        view : List ℕ
        view = take views inp

        said : List ℕ
        said = m.says s view

        next : S
        next = m.after s view

        later : Outcome S
        later = call m next (drop (m.takes s view) inp) (room - length said)

        one : call m s inp room ≡ join (acted said (m.takes s view) next) later
        one = call-act m law s inp room views e shown fits

        before : work o ≡ o.taken + length o.replies
        before = rw e (omega arith)

        after : length (o.replies ++ (said ++ later.replies)) ≡ length o.replies + (length said + length later.replies)
        after = length-append o.replies (said ++ later.replies) ∙ ap (λ n. length o.replies + n) (length-append said later.replies)

        moved : Moves m s view → work o < work (join o (join (acted said (m.takes s view) next) later))
        moved (takes_some p) = omega (arith, before, after)
        moved (sends_some p q) = omega (arith, before, after)
        moved (stops p) = omega (arith, before, after, ap (λ (x : Outcome S). at_end (m.need x.final)) (call-run m next (drop (m.takes s view) inp) (room - length said) p), ap at_end p)

    pub call-brings : (o : Outcome S) (inp : List ℕ) (room : ℕ) → Brings o (call m o.final inp room)
    call-brings o inp room = go (m.need o.final) refl
      where
        go : (n : Need) → m.need o.final ≡ n → Brings o (call m o.final inp room)
        go runs e = nothing (call-run m o.final inp room e)
        go (acts views) e = cases (ltb (length inp) views) (λ t. nothing (call-short m o.final inp room views e (ltb-true _ _ t))) (λ f. shows (ltb-false _ _ f))
          where
            said : List ℕ
            said = m.says o.final (take views inp)

            shows : views ≤ length inp → Brings o (call m o.final inp room)
            shows shown =
                cases (ltb room (length said)) (λ t. nothing (call-full m o.final inp room views e (ltb-true _ _ t)))
                (λ f. further (acts-further o inp room views e shown (ltb-false _ _ f)))

    -- a full call that did nothing
    pub full-stopped : Brief m → (s : S) (waiting : List ℕ) (shown room : ℕ) → is_full waiting shown room ≡ true →
        call m s (take shown waiting) room ≡ halt s → Stopped m s waiting
    full-stopped brief s waiting shown room full e = unless-full m s waiting (λ views f v. none views f v)
      where
        none : (views : ℕ) → m.need s ≡ acts views → views ≤ length waiting → ⊥
        none views f v =
            let both = both_true (ltb 0 room) (leb (length waiting) shown) full in
            let same : call m s waiting room ≡ halt s = rw (← take_all shown waiting (leb-true _ _ both.1)) e in
            let on = acts-further (halt s) waiting room views f v (omega (arith, brief s (take views waiting), ltb-true 0 room both.0)) in
            let still : work (join (halt s) (call m s waiting room)) ≡ work (halt s) = rw same refl in
            omega (arith, on, still)

    -- how far it can come, shown a beginning of r, where it sends a beginning of h
    module _ (s : S) (shown r h : List ℕ) (o : Outcome S) (c : Came m s shown o) (b : Begins shown r) (e : Begins o.replies h) where
      work-counts : work o ≤ length h + length r + at_end (m.need o.final)
      work-counts =
          omega (arith, path-within m law s shown c.way, ap length b.is, length-append shown b.back, ap length e.is, length-append o.replies e.back)

      pub work-within : work o ≤ length h + length r + 1
      work-within = omega (arith, work-counts, at_most_one (m.need o.final))

      -- as far as that only at its end
      pub work-whole : length h + length r < work o → Stopped m o.final (drop o.taken shown)
      work-whole w = ends (m.need o.final) refl (omega (arith, work-counts))
        where
          ends : (n : Need) → m.need o.final ≡ n → 0 < at_end n → Stopped m o.final (drop o.taken shown)
          ends runs f z = running (rw f refl)
          ends (acts views) f z = absurd (let y : ⊥ = omega arith in y)

  -- who can't go on does nothing, whatever it is shown of what waits
  pub stopped-idle : (s : S) (waiting : List ℕ) (shown room : ℕ) → Stopped m s waiting → call m s (take shown waiting) room ≡ halt s
  stopped-idle s waiting shown room (running e) = call-run m s (take shown waiting) room (stands-running (m.need s) (length waiting) e)
  stopped-idle s waiting shown room (waits e) =
      let l = stands-waiting (m.need s) (length waiting) e in
      call-short m s (take shown waiting) room l.views l.need-is (omega (arith, l.less, length-take shown waiting))
