-- A list of calls on two joined sessions is a schedule of their machines.
-- Assumes nothing.
use Prim.Native.Nat.{ℕ, zero, suc}
use mathlib.Core.Path.{◌≡◌, refl, ap, ◌∙◌}
use mathlib.Core.Bool.{Bool, false, ◌||◌}
use mathlib.Core.List.{List, [], ◌∷◌, map}
use lib.ListN.{length, take, drop}
use lib.Seq.{take-length, take-append_seam}
use Rattle.machine.specs.Machine.{runs, Machine}
use Rattle.machine.specs.Outcome.{Outcome, halt, join}
use Rattle.machine.specs.Call.{standing, call}
use Rattle.machine.specs.History.{Event}
use Rattle.machine.specs.Lawful.{Any, Lawful}
use Rattle.machine.specs.Cuts.{Stopped}
use Rattle.machine.specs.Session.{Session, accepted}
use Rattle.machine.specs.SessionLaws.{Faithful}
use Rattle.machine.proofs.Paths.{path-keeps, all_any}
use Rattle.machine.proofs.Stops.{stands-running, still}
use Rattle.machine.proofs.Sessions.{result-is, quiet}
use Rattle.joining.specs.Joint.{Both, begun, queue, Turn, turn, turns}
use Rattle.joining.specs.Joint as joint
use Rattle.joining.specs.Closing.{ClosesAlone}
use Rattle.joining.specs.Schedules.{Still, Ends, Joined}
use Rattle.joining.specs.Rounds.{rounds_from}
use Rattle.joining.specs.Diligence.{Brief}
use Rattle.joining.specs.Diligence as machines
use Rattle.joining.specs.Sides.{Side, Sides, Lending, on_left, on_right, answered, having, side_of, sides_of, lending, lendings}
use Rattle.joining.specs.Lists.{Rests, starves, over, left_full, right_full, Resting, end_sides, JoinedSides, EveryList, alternating, DiligentLists}
use Rattle.joining.proofs.Joints.{Going, turn-goes, first_goes, turns_go, every-schedule}
use Rattle.joining.proofs.Work.{stopped-idle}
use Rattle.joining.proofs.Diligences.{diligent}

module _ {M S : Type 0} (σ : Session ℕ M S) {Good : ℕ → Type 0} {fresh : M → S} {Sound : S → Type 0} {Invariant : List (Event ℕ S) → S → Type 0}
    (law : Faithful σ Good fresh Sound Invariant) (o : Outcome S) (g : Sound o.final) where
  -- a call of the session is a call of its machine
  answer-is : (input reply : List ℕ) → answered σ (side_of σ o) input reply ≡ accepted σ o.final input reply
  answer-is input reply = result-is σ law (λ events s h. h) o.final g input reply

  call-is : (input reply : List ℕ) → having (side_of σ o) (answered σ (side_of σ o) input reply) ≡ side_of σ (join o (call σ.machine o.final input (length reply)))
  unfolding accepted
  call-is input reply =
      let p = call σ.machine o.final input (length reply) in
      rw (answer-is input reply, take-append_seam p.replies (drop (length p.replies) reply)) refl

  accepts : (input reply : List ℕ) → (answered σ (side_of σ o) input reply).report.number ≡ 0
  unfolding accepted
  accepts input reply = rw (answer-is input reply) refl

  -- a session that is over: so is its machine
  over_runs : (answered σ (side_of σ o) [] []).report.standing ≡ 3 → σ.machine.need o.final ≡ runs
  unfolding accepted
  over_runs e =
      let here : standing σ.machine o.final [] ≡ 3 = rw (answer-is [] [], quiet σ law (λ events s h. h) o.final) at e in
      stands-running (σ.machine.need o.final) 0 here

  -- the session can't go on exactly if its machine can't
  rests-stopped : (waiting : List ℕ) → Rests σ (side_of σ o) waiting → Stopped σ.machine o.final waiting
  unfolding accepted
  rests-stopped waiting (starves h) =
      let same = answer-is waiting [] in
      still σ.machine law.lawful o.final waiting (rw same at h.took_nothing) (rw same at h.waits)
  rests-stopped waiting (over e) = Stopped.running (rw (over_runs e) refl)

  stopped-rests : (waiting : List ℕ) → Stopped σ.machine o.final waiting → Rests σ (side_of σ o) waiting
  unfolding accepted
  stopped-rests waiting (Stopped.waits e) =
      let idle : call σ.machine o.final waiting 0 ≡ halt o.final =
      rw take-length at (stopped-idle σ.machine o.final waiting (length waiting) 0 (Stopped.waits e)) in
      starves (record { took_nothing = rw (answer-is waiting [], idle) refl; waits = rw (answer-is waiting [], idle) e })
  stopped-rests waiting (Stopped.running e) =
      over (rw (answer-is [] [], quiet σ law (λ events s h. h) o.final, stands-running (σ.machine.need o.final) (length waiting) e) refl)

abbrev turn_of : Lending → Turn
turn_of (on_left shown reply) = joint.on_left shown (length reply)
turn_of (on_right shown reply) = joint.on_right shown (length reply)

module _ {M N S K : Type 0} (σ : Session ℕ M S) (τ : Session ℕ N K) {GoodS GoodK : ℕ → Type 0} {freshS : M → S} {freshK : N → K} {SoundS : S → Type 0}
    {SoundK : K → Type 0} {InvS : List (Event ℕ S) → S → Type 0} {InvK : List (Event ℕ K) → K → Type 0}
    (faithS : Faithful σ GoodS freshS SoundS InvS) (faithK : Faithful τ GoodK freshK SoundK InvK)
    (lawS : Lawful σ.machine Any SoundS) (lawK : Lawful τ.machine Any SoundK)
    (s : S) (gs : SoundS s) (t : K) (gt : SoundK t) (h r : List ℕ) (c : ClosesAlone σ.machine τ.machine s t h r) where
  abbrev m : Machine ℕ S
  m = σ.machine

  abbrev k : Machine ℕ K
  k = τ.machine

  abbrev Goings : Both S K → Type 0
  Goings b = Going m k lawS lawK s gs t gt h r b

  left-sound : (b : Both S K) → Goings b → SoundS b.left.final
  left-sound b g = path-keeps m lawS s b.right.replies lawS.stays_sound (all_any b.right.replies) gs g.left_came.way

  right-sound : (b : Both S K) → Goings b → SoundK b.right.final
  right-sound b g = path-keeps k lawK t b.left.replies lawK.stays_sound (all_any b.left.replies) gt g.right_came.way

  next-goes : (b : Both S K) → Goings b → (x : Lending) → Goings (turn m k b (turn_of x))
  next-goes b g x = turn-goes m k lawS lawK s gs t gt h r c.closes b (turn_of x) g

  lending-is : (b : Both S K) → Goings b → (x : Lending) → lending σ τ (sides_of σ τ b) x ≡ sides_of σ τ (turn m k b (turn_of x))
  lending-is b g (on_left shown reply) =
      ap (λ (l : Side M). record { left = l; right = side_of τ b.right }) (call-is σ faithS b.left (left-sound b g) (take shown (queue b.left b.right)) reply)
  lending-is b g (on_right shown reply) =
      ap (λ (l : Side N). record { left = side_of σ b.left; right = l }) (call-is τ faithK b.right (right-sound b g) (take shown (queue b.right b.left)) reply)

  lendings-are : (b : Both S K) → Goings b → (xs : List Lending) → lendings σ τ (sides_of σ τ b) xs ≡ sides_of σ τ (turns m k b (map turn_of xs))
  lendings-are b g [] = refl
  lendings-are b g (x ∷ xs) =
      ap (λ (l : Sides M N). lendings σ τ l xs) (lending-is b g x) ∙ lendings-are (turn m k b (turn_of x)) (next-goes b g x) xs

  -- and has as many rounds
  left-full-is : (b : Both S K) (x : Lending) → left_full (sides_of σ τ b) x ≡ machines.left_full b (turn_of x)
  left-full-is b (on_left shown reply) = refl
  left-full-is b (on_right shown reply) = refl

  right-full-is : (b : Both S K) (x : Lending) → right_full (sides_of σ τ b) x ≡ machines.right_full b (turn_of x)
  right-full-is b (on_left shown reply) = refl
  right-full-is b (on_right shown reply) = refl

  rounds-are : (left right : Bool) (b : Both S K) → Goings b → (xs : List Lending) →
      rounds_from (lending σ τ) left_full right_full left right (sides_of σ τ b) xs ≡ rounds_from (turn m k) machines.left_full machines.right_full left right b (map turn_of xs)
  unfolding rounds_from
  rounds-are left right b g [] = refl
  rounds-are left right b g (x ∷ xs) =
      let b' = turn m k b (turn_of x) in
      let g' = next-goes b g x in
      rw (lending-is b g x, left-full-is b x, right-full-is b x, rounds-are false false b' g' xs, rounds-are (left || machines.left_full b (turn_of x)) (right || machines.right_full b (turn_of x)) b' g' xs) refl

  first : Goings (begun s t)
  first = first_goes m k lawS lawK s gs t gt h r

  -- a schedule's end, as the callers see it
  at-list-end : (xs : List Lending) → Goings (turns m k (begun s t) (map turn_of xs))
  at-list-end xs = turns_go m k lawS lawK s gs t gt h r c.closes (begun s t) (map turn_of xs) first

  stops-of : (b : Both S K) → Goings b → Resting σ τ (sides_of σ τ b) → Still m k b
  stops-of b g x =
      record {
        left_stops = rests-stopped σ faithS b.left (left-sound b g) (queue b.left b.right) x.left_rests;
        right_stops = rests-stopped τ faithK b.right (right-sound b g) (queue b.right b.left) x.right_rests;
      }

  rests-of : (b : Both S K) → Goings b → Still m k b → Resting σ τ (sides_of σ τ b)
  rests-of b g x =
      record {
        left_rests = stopped-rests σ faithS b.left (left-sound b g) (queue b.left b.right) x.left_stops;
        right_rests = stopped-rests τ faithK b.right (right-sound b g) (queue b.right b.left) x.right_stops;
      }

  ends-are : (b : Both S K) → Ends m k s t h r b → sides_of σ τ b ≡ end_sides σ τ s t h r
  ends-are b e = rw (e.left_is, e.right_is) refl

  joined_at : (b : Both S K) → Goings b → Joined m k s t h r b → JoinedSides σ τ s t h r (sides_of σ τ b)
  joined_at b g j =
      record {
        reached = b;
        reached_is = refl;
        left_came = j.left_came;
        right_came = j.right_came;
        left_begins = j.left_begins;
        right_begins = j.right_begins;
        left_accepts = accepts σ faithS b.left (left-sound b g);
        right_accepts = accepts τ faithK b.right (right-sound b g);
        left_over = λ e. ap (side_of σ) (j.left_over (over_runs σ faithS b.left (left-sound b g) e));
        right_over = λ e. ap (side_of τ) (j.right_over (over_runs τ faithK b.right (right-sound b g) e));
        at_end = λ x. ends-are b (j.at_end (stops-of b g x));
      }

  pub every-list : EveryList σ τ s t h r
  every-list xs =
      rw (lendings-are (begun s t) first xs)
      (joined_at (turns m k (begun s t) (map turn_of xs)) (at-list-end xs) (every-schedule m k lawS lawK s gs t gt h r c (map turn_of xs)))

  alternating-is : (n : ℕ) → map turn_of (alternating h r n) ≡ machines.alternating h r n
  alternating-is zero = refl
  alternating-is (suc n) = ap (λ (ts : List Turn). joint.on_left (length r) 1 ∷ joint.on_right (length h) 1 ∷ ts) (alternating-is n)

  pub diligent_lists : Brief m → Brief k → DiligentLists σ τ s t h r
  diligent_lists briefS briefK =
      let d = diligent m k lawS lawK s gs t gt h r briefS briefK c in
      record {
        every_ends = λ xs w.
            let b = turns m k (begun s t) (map turn_of xs) in
            let e = d.every_ends (map turn_of xs) (rw (← rounds-are false false (begun s t) first xs) w) in
            let same = lendings-are (begun s t) first xs in
            record { resting = rw same (rests-of b (at-list-end xs) e.still); ends = same ∙ ends-are b e.ends };
        some_are = λ n. rounds-are false false (begun s t) first (alternating h r n) ∙ rw (alternating-is n) (d.some_are n);
      }
