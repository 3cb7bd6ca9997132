-- A list of calls to a faithful session follows the uncut definition.
-- Assumes nothing.
use Prim.Native.Nat.{ℕ, zero, suc, ◌+◌, ◌≤◌, ◌<◌}
use native.Mathlib.Omega.{arith}
use mathlib.Core.Path.{◌≡◌, refl, sym, ap, ◌∙◌}
use mathlib.Core.List.{List, [], ◌∷◌, map}
use lib.ListN.{length, take, drop, length-append, length-drop}
use lib.Seq.{drop-drop, drop-length, take-append_seam}
use borrow.Author.Tests.{eq-eqb, ne_eqb, lt-ltb}
use Rattle.machine.specs.Machine.{Need, acts, runs, Machine}
use Rattle.machine.specs.Outcome.{Outcome, halt, join}
use Rattle.machine.specs.Call.{Call, offered, standing, call, calls}
use Rattle.machine.specs.Uncut.{uncut}
use Rattle.machine.specs.History.{Event, Came}
use Rattle.machine.specs.Lawful.{Every, Lawful}
use Rattle.machine.specs.Cuts.{Stopped}
use Rattle.machine.specs.Session.{Session, GivenBack, refused, accepted, result_of}
use Rattle.machine.specs.SessionLaws.{OneByOne, Faithful}
use Rattle.machine.specs.Listing.{Lent, totals, results, given, Made, none, next}
use Rattle.machine.specs.SessionClaim as claim
use Rattle.machine.specs.SessionClaim.{Stops, Starves, TakesAll, Ended, DefinitionEnds, Follows, Claim, MadeClaim}
use Rattle.machine.specs.declared.Record.{Record}
use Rattle.machine.proofs.Outcomes.{halt-join}
use Rattle.machine.proofs.Actions.{call-run, call-short, call-full}
use Rattle.machine.proofs.Paths.{path-keeps, path-within, call-came, calls-came, at-start, uncut-came}
use Rattle.machine.proofs.Stops.{stands-running, stands-waiting, call-blocked, uncut-stops, still}
use Rattle.machine.proofs.Refusals.{accepts-standing}
use Rattle.machine.proofs.Cuts.{came-agrees}

-- what a program's calls gave back is what the definition gives
pub made-results : {A M S : Type 0} (σ : Session A M S) {session : Record} {mem : M} {rest : List A} {cs : List Lent} {given : List (GivenBack M)} →
    Made σ session mem rest cs given → given ≡ results σ session mem rest cs
unfolding results
made-results σ none = refl
made-results σ {session} {mem} {rest} (next {c = c} {later = later} {a = a} {others = others} e m) =
    ap (λ (os : List (GivenBack _)). a ∷ os) (made-results σ m)
    ∙ ap (λ (x : GivenBack _). x ∷ results σ x.report.session x.memories (drop x.report.taken rest) later) e

-- refused lengths: every call is refused, and the next one finds everything as it was
refused_all : {A M S : Type 0} (σ : Session A M S) (session : Record) (mem : M) → (σ.refusal mem ≡ 0 → ⊥) → (rest : List A) (cs : List Lent) →
    results σ session mem rest cs ≡ map (λ (c : Lent). refused (σ.refusal mem) session c.reply mem) cs
unfolding results result_of
refused_all σ session mem h rest [] = refl
refused_all σ session mem h rest (c ∷ cs) =
    rw (ne_eqb _ _ h) (ap (λ (os : List (GivenBack _)). refused (σ.refusal mem) session c.reply mem ∷ os) (refused_all σ session mem h rest cs))

-- where no action has more than `slot` symbols in view, a call that waits leaves fewer
pub leaves-less : {A M S : Type 0} (σ : Session A M S) {Good : A → Type 0} {Sound : S → Type 0} → Lawful σ.machine Good Sound →
    (slot : ℕ) → ((s : S) (views : ℕ) → σ.machine.need s ≡ acts views → views ≤ slot) →
    (session : Record) (mem : M) (input : List A) (reply : List ℕ) → (result_of σ session mem input reply).report.standing ≡ 1 →
    let taken = (result_of σ session mem input reply).report.taken in
    (taken ≤ length input) × (length input < taken + slot)
unfolding accepted
leaves-less σ law slot most session mem input reply e =
    let m = σ.machine in
    let k = accepts-standing σ session mem input reply e (omega arith) in
    let p = call m k.state input (length reply) in
    let within : p.taken ≤ length input = (call-blocked m law k.state input (length reply)).within in
    let l = stands-waiting (m.need p.final) (length (drop p.taken input)) (rw k.result-is at e) in
    rw k.result-is (within, omega (arith, l.less, most p.final l.views l.need-is, length-drop p.taken input))

-- one by one: it has taken all it was shown
pub takes_all : {A M S : Type 0} (σ : Session A M S) {Good : A → Type 0} {Sound : S → Type 0} → Lawful σ.machine Good Sound → OneByOne σ.machine → TakesAll σ
takes_all σ law one session mem input reply e = omega (arith, leaves-less σ law 1 one session mem input reply e)

-- the machine's call for a call of a list
abbrev call_of : Lent → Call
call_of c = offered c.shown (length c.reply)

module _ {A M S : Type 0} (σ : Session A M S) {Good : A → Type 0} {fresh : M → S} {Sound : S → Type 0} {Invariant Told : List (Event A S) → S → Type 0}
    (law : Faithful σ Good fresh Sound Invariant) (tells : (events : List (Event A S)) (s : S) → Invariant events s → Told events s) where
  abbrev m : Machine A S
  m = σ.machine

  -- a call with the record and the memories of a sound state
  pub result-is : (s : S) → Sound s → (input : List A) (reply : List ℕ) → result_of σ (σ.write s) (σ.memories s) input reply ≡ accepted σ s input reply
  unfolding result_of
  result-is s g input reply = simp (eq-eqb _ _ (law.fits s g), law.reads_back s g)

  -- with no input and no room nothing happens
  pub quiet : (s : S) → call m s [] 0 ≡ halt s
  quiet s = go (m.need s) refl
    where
      go : (n : Need) → m.need s ≡ n → call m s [] 0 ≡ halt s
      go runs e = call-run m s [] 0 e
      go (acts zero) e = call-full m s [] 0 0 e (law.speaks s e)
      go (acts (suc views)) e = call-short m s [] 0 (suc views) e (omega arith)

  quiet-standing : (s : S) → Sound s → (result_of σ (σ.write s) (σ.memories s) [] []).report.standing ≡ standing m s []
  unfolding accepted
  quiet-standing s g = rw (result-is s g [] [], quiet s) refl

  module _ (start : S) (good : Sound start) (stream : List A) (w : Every Good stream) where
    pub came-sound : (o : Outcome S) → Came m start stream o → Sound o.final
    came-sound o c = path-keeps m law.lawful start stream law.lawful.stays_sound w good c.way

    -- the totals of a list are those of the machine's calls
    totals-are : (cs : List Lent) (o : Outcome S) → Came m start stream o →
        totals (σ.write o.final) (σ.memories o.final) (results σ (σ.write o.final) (σ.memories o.final) (drop o.taken stream) cs)
        ≡ given σ (calls m o.final (drop o.taken stream) (map call_of cs))
    unfolding results calls accepted
    totals-are [] o c = refl
    totals-are (l ∷ cs) o c =
        let rest = drop o.taken stream in
        let input = take l.shown rest in
        let p = call m o.final input (length l.reply) in
        let q = calls m p.final (drop p.taken rest) (map call_of cs) in
        let ih = totals-are cs (join o p) (call-came m law.lawful start stream o c l.shown (length l.reply)) in
        let ih' = rw (← drop-drop p.taken o.taken stream) at ih in
        rw (result-is o.final (came-sound o c) input l.reply, ih', take-append_seam p.replies (drop (length p.replies) l.reply), length-append p.replies q.replies) refl

    none-refused : (cs : List Lent) (o : Outcome S) → Came m start stream o →
        Every (λ (a : GivenBack M). a.report.number ≡ 0) (results σ (σ.write o.final) (σ.memories o.final) (drop o.taken stream) cs)
    unfolding results accepted
    none-refused [] o c = tt
    none-refused (l ∷ cs) o c =
        let rest = drop o.taken stream in
        let input = take l.shown rest in
        let p = call m o.final input (length l.reply) in
        let ih = none-refused cs (join o p) (call-came m law.lawful start stream o c l.shown (length l.reply)) in
        rw (result-is o.final (came-sound o c) input l.reply) (refl, rw (← drop-drop p.taken o.taken stream) at ih)

    module _ (o : Outcome S) (c : Came m start stream o) where
      -- a session that waits for a byte with all taken, or runs code, has stopped
      waits-stopped : o.taken ≡ length stream → (result_of σ (σ.write o.final) (σ.memories o.final) [] []).report.standing ≡ 1 →
          Stopped m o.final (drop o.taken stream)
      waits-stopped full e = rw (full, drop-length stream) (Stopped.waits (sym (quiet-standing o.final (came-sound o c)) ∙ e))

      runs-stopped : (result_of σ (σ.write o.final) (σ.memories o.final) [] []).report.standing ≡ 3 → Stopped m o.final (drop o.taken stream)
      runs-stopped e =
          let here : standing m o.final [] ≡ 3 = sym (quiet-standing o.final (came-sound o c)) ∙ e in
          Stopped.running (rw (stands-running (m.need o.final) 0 here) refl)

      -- and so has one that, shown what is left, takes nothing and waits
      starves-stopped : Starves (result_of σ (σ.write o.final) (σ.memories o.final) (drop o.taken stream) []) → Stopped m o.final (drop o.taken stream)
      unfolding accepted
      starves-stopped h =
          let rest = drop o.taken stream in
          let same = result-is o.final (came-sound o c) rest [] in
          still m law.lawful o.final rest (rw same at h.took_nothing) (rw same at h.waits)

      -- a call that doesn't wait for room
      stops : (input : List A) (reply : List ℕ) → let p = call m o.final input (length reply) in
          Stopped m p.final (drop p.taken input) → Stops (result_of σ (σ.write o.final) (σ.memories o.final) input reply)
      unfolding accepted
      stops input reply (Stopped.running e) = rw (result-is o.final (came-sound o c) input reply) (claim.running e)
      stops input reply (Stopped.waits e) = rw (result-is o.final (came-sound o c) input reply) (Stops.waits e)

      pub follows : Invariant [] start → Follows σ Told start stream (given σ o)
      follows first =
          let h = came-agrees m law.lawful start good stream w o c in
          let b = h.replies_begin in
          record {
            replies_begin = b;
            taken_within = h.taken_within;
            sent_within = omega (arith, ap length b.is, length-append o.replies b.back);
            all_taken = λ full e. ap (given σ) (h.stopped (waits-stopped full e));
            code_runs = λ e. ap (given σ) (h.stopped (runs-stopped e));
            too_few_left = λ e. ap (given σ) (h.stopped (starves-stopped e));
            enough_room = λ shown reply r. stops (take shown (drop o.taken stream)) reply (h.enough_room shown (length reply) r);
            reached = o.final;
            reached_is = (refl, refl);
            reads_as = law.reads_back o.final (came-sound o c);
            history = c;
            told = λ events p led. tells events p.final (path-keeps m law.lawful start stream law.kept w first led);
          }

  -- one by one: the uncut definition stops with all taken, or since code runs
  pub definition_ends : OneByOne m → DefinitionEnds σ Good fresh
  definition_ends one mem stream w e = ended (uncut-stops m law.lawful s g stream w)
    where
      s : S
      s = fresh mem

      g : Sound s
      g = law.fresh_sound mem e

      u : Outcome S
      u = uncut m s stream

      came : Came m s stream u
      came = uncut-came m law.lawful s stream

      stands : (result_of σ (σ.write u.final) (σ.memories u.final) [] []).report.standing ≡ standing m u.final []
      stands = quiet-standing u.final (came-sound s g stream w u came)

      ended : Stopped m u.final (drop u.taken stream) → Ended σ stream (given σ u)
      ended (Stopped.running q) = claim.Ended.running (stands ∙ rw (stands-running (m.need u.final) (length (drop u.taken stream)) q) refl)
      ended (Stopped.waits q) =
          let l = stands-waiting (m.need u.final) (length (drop u.taken stream)) q in
          let most = one u.final l.views l.need-is in
          let within = path-within m law.lawful s stream came.way in
          claim.Ended.waits (omega (arith, l.less, most, within, length-drop u.taken stream))
          (stands ∙ rw (l.need-is, lt-ltb 0 l.views (omega (arith, l.less))) refl)

  -- the claim about a whole list of calls
  pub session-claim : Claim σ Good Told fresh
  session-claim mem stream w cs =
      record {
        refused_lengths = λ h. refused_all σ (σ.write (fresh mem)) mem h stream cs;
        no_refusal = λ e.
            let s = fresh mem in
            rw (law.fresh_memories mem) at (none-refused s (law.fresh_sound mem e) stream w cs (halt s) (at-start m law.lawful s stream));
        follows = λ e.
            let s = fresh mem in
            let g = law.fresh_sound mem e in
            let came = calls-came m law.lawful s stream (map call_of cs) (halt s) (at-start m law.lawful s stream) in
            let came' = rw (halt-join s (calls m s stream (map call_of cs))) at came in
            let same = rw (law.fresh_memories mem) at (totals-are s g stream w cs (halt s) (at-start m law.lawful s stream)) in
            rw same (follows s g stream w (calls m s stream (map call_of cs)) came' (law.at_first mem e));
      }

  -- and about what a program's calls gave back
  pub made-claim : MadeClaim σ Good Told fresh
  made-claim mem stream w cs given made = rw (made-results σ made) (session-claim mem stream w cs)
