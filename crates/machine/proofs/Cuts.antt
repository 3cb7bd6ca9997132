-- Cuts and rooms never change the outcome, over any lawful machine.
-- Assumes nothing.
use Prim.Native.Nat.{ℕ, ◌+◌, ◌≤◌}
use native.Mathlib.Omega.{arith}
use mathlib.Core.Path.{◌≡◌, sym, ap, ◌∙◌}
use mathlib.Core.List.{List, ◌++◌}
use lib.ListN.{length, take, drop, length-append, take-append-drop}
use lib.Seq.{drop-drop}
use Rattle.machine.specs.Machine.{acts, Machine}
use Rattle.machine.specs.Outcome.{Outcome, halt, join}
use Rattle.machine.specs.Call.{call, calls}
use Rattle.machine.specs.Uncut.{uncut}
use Rattle.machine.specs.History.{Came}
use Rattle.machine.specs.Lawful.{Every, Lawful}
use Rattle.machine.specs.Cuts.{Begins, Stopped, waits, running, Agrees, CutsNeverMatter}
use Rattle.machine.proofs.Outcomes.{halt-join, join-halt}
use Rattle.machine.proofs.Actions.{uncut-run, uncut-short, uncut-act}
use Rattle.machine.proofs.Paths.{begins-take, begins-drop, path-keeps, call-came, calls-came, at-start, path-continues, uncut-came}
use Rattle.machine.proofs.Stops.{stands-running, stands-waiting, unless-full, call-blocked, uncut-stops}

module _ {A S : Type 0} (m : Machine A S) {Good : A → Type 0} {Sound : S → Type 0} (law : Lawful m Good Sound) where
  -- the uncut definition does nothing where a machine has stopped
  stopped-uncut : (s : S) (left : List A) → Stopped m s left → uncut m s left ≡ halt s
  stopped-uncut s left (running e) = uncut-run m law s left (stands-running (m.need s) (length left) e)
  stopped-uncut s left (waits e) =
      let l = stands-waiting (m.need s) (length left) e in
      uncut-short m law s left l.views l.need-is l.less

  module _ (start : S) (g : Sound start) (stream : List A) (w : Every Good stream) where
    -- what has come to o: the definition goes on from there
    module _ (o : Outcome S) (c : Came m start stream o) where
      rest : List A
      rest = drop o.taken stream

      continues : uncut m start stream ≡ join o (uncut m o.final rest)
      unfolding rest
      continues = path-continues m law start stream g w c.way

      stopped-same : Stopped m o.final rest → o ≡ uncut m start stream
      stopped-same s = sym (continues ∙ rw (stopped-uncut o.final rest s) (join-halt o))

      -- a call that has an action's symbols in view lacks room for replies of the definition
      room-lacks : (shown room views : ℕ) →
          let input = take shown rest in
          let p = call m o.final input room in
          length (uncut m start stream).replies ≤ length o.replies + room →
          m.need p.final ≡ acts views → views ≤ length (drop p.taken input) → ⊥
      unfolding rest
      room-lacks shown room views h e v =
          let input = take shown rest in
          let p = call m o.final input room in
          let b = call-blocked m law o.final input room in
          let full = b.full views e v in
          let front : Begins input rest = record { back = drop shown rest; is = sym (take-append-drop shown rest) } in
          let later : Begins (drop p.taken input) (drop p.taken rest) = begins-drop input rest p.taken front b.within in
          let view = take views (drop p.taken input) in
          let same : view ≡ take views (drop p.taken rest) = begins-take (drop p.taken input) (drop p.taken rest) views later v in
          let on = call-came m law start stream o c shown room in
          let sound : Sound p.final = path-keeps m law start stream law.stays_sound w g on.way in
          let enough : views ≤ length (drop p.taken rest) = omega (arith, v, ap length later.is, length-append (drop p.taken input) later.back) in
          let act = uncut-act m law p.final sound (drop p.taken rest) views e enough in
          let whole = path-continues m law start stream g w on.way in
          let whole' = rw (← drop-drop p.taken o.taken stream, act, ← same) at whole in
          let sent = o.replies ++ p.replies in
          let said = m.says p.final view in
          let takes = m.takes p.final view in
          let last = (uncut m (m.after p.final view) (drop takes (drop p.taken rest))).replies in
          let count : length (uncut m start stream).replies ≡ length (sent ++ (said ++ last)) = ap (λ x. length x.replies) whole' in
          omega (arith, count, length-append sent (said ++ last), length-append o.replies p.replies, length-append said last, full, h)

      enough_room : (shown room : ℕ) → length (uncut m start stream).replies ≤ length o.replies + room →
          let input = take shown rest in
          let p = call m o.final input room in
          Stopped m p.final (drop p.taken input)
      enough_room shown room h = unless-full m _ _ (λ views e v. room-lacks shown room views h e v)

    -- the claim, for what has come to o
    pub came-agrees : (o : Outcome S) → Came m start stream o → Agrees m start stream o (uncut m start stream)
    unfolding rest
    came-agrees o c =
        record {
          definition_stops = uncut-stops m law start g stream w;
          replies_begin = record { back = (uncut m o.final (drop o.taken stream)).replies; is = ap (λ x. x.replies) (continues o c) };
          taken_within = omega (arith, ap (λ x. x.taken) (continues o c));
          stopped = stopped-same o c;
          enough_room = enough_room o c;
          history = (c, uncut-came m law start stream);
        }

-- cuts never matter
pub cuts-never-matter : {A S : Type 0} (m : Machine A S) {Good : A → Type 0} {Sound : S → Type 0} → Lawful m Good Sound → CutsNeverMatter m Good Sound
cuts-never-matter m law start g stream w cs =
    let c = calls-came m law start stream cs (halt start) (at-start m law start stream) in
    came-agrees m law start g stream w (calls m start stream cs) (rw (halt-join start (calls m start stream cs)) at c)
