-- What a machine has done over the beginning of a stream it has done over the stream.
-- Assumes nothing.
use Prim.Native.Nat.{ℕ, zero, suc, ◌≤◌}
use native.Mathlib.Omega.{arith}
use mathlib.Core.Path.{◌≡◌, refl, sym, ap, ◌∙◌}
use mathlib.Core.List.{List, [], ◌++◌}
use lib.ListN.{length, take, drop, length-drop, length-take}
use lib.Seq.{drop-append-le, take-append-le}
use Rattle.machine.specs.Machine.{runs, Machine}
use Rattle.machine.specs.Outcome.{Outcome, halt}
use Rattle.machine.specs.Uncut.{uncut}
use Rattle.machine.specs.History.{Event, Way, here, more, Came}
use Rattle.machine.specs.Lawful.{Any, Lawful}
use Rattle.machine.specs.Cuts.{Begins, Stopped, running}
use Rattle.machine.proofs.Paths.{all_any, at-start}
use Rattle.machine.proofs.Cuts.{came-agrees}

module _ {S : Type 0} (m : Machine ℕ S) (s : S) where
  -- actions on a stream are actions on every longer one
  way-longer : (stream back : List ℕ) {events : List (Event ℕ S)} {o : Outcome S} → Way m s stream events o → Way m s (stream ++ back) events o
  way-longer stream back here = here
  way-longer stream back (more {o = o} {views = views} {view = view} w e v l) = more (way-longer stream back w) e (v ∙ same views (sym (ap length v) ∙ l)) l
    where
      same : (n : ℕ) → length (take n (drop o.taken stream)) ≡ n → take n (drop o.taken stream) ≡ take n (drop o.taken (stream ++ back))
      same zero f = refl
      same (suc n) f =
          let rest = drop o.taken stream in
          let in_rest : suc n ≤ length rest = omega (arith, f, length-take (suc n) rest) in
          let in-stream : o.taken ≤ length stream = omega (arith, in_rest, length-drop o.taken stream) in
          rw (drop-append-le o.taken stream back in-stream, take-append-le (suc n) rest back in_rest) refl

  pub came-longer : (stream back : List ℕ) (o : Outcome S) → Came m s stream o → Came m s (stream ++ back) o
  came-longer stream back o c = record { events = c.events; way = way-longer stream back c.way }

  pub came-whole : (shown r : List ℕ) (o : Outcome S) → Begins shown r → Came m s shown o → Came m s r o
  came-whole shown r o b c = rw b.is (came-longer shown b.back o c)

  module _ {Sound : S → Type 0} (law : Lawful m Any Sound) (g : Sound s) where
    -- who was shown a beginning of r has sent a beginning of what r brings
    pub came-begins : (shown r h : List ℕ) (o : Outcome S) → Begins shown r → (uncut m s r).replies ≡ h → Came m s shown o → Begins o.replies h
    came-begins shown r h o b e c =
        let begins = (came-agrees m law s g r (all_any r) o (came-whole shown r o b c)).replies_begin in
        record { back = begins.back; is = sym e ∙ begins.is }

    -- who can't go on with what it was shown is where the definition ends
    pub came-stops : (shown : List ℕ) (o : Outcome S) → Came m s shown o → Stopped m o.final (drop o.taken shown) → o ≡ uncut m s shown
    came-stops shown o c stops = (came-agrees m law s g shown (all_any shown) o c).stopped stops

    -- who is over before all of r was shown is where the definition ends on r
    pub came-over : (shown r : List ℕ) (o : Outcome S) → Begins shown r → Came m s shown o → m.need o.final ≡ runs → o ≡ uncut m s r
    came-over shown r o b c e = came-stops r o (came-whole shown r o b c) (running (rw e refl))

    -- who can't act with nothing shown gives nothing
    pub stopped-halts : Stopped m s [] → uncut m s [] ≡ halt s
    stopped-halts still = sym (came-stops [] (halt s) (at-start m law s []) still)
