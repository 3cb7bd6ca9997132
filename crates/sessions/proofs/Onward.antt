-- The definition goes on where a call has stopped.
-- Assumes nothing.
use Prim.Native.Nat.{ℕ, ◌+◌, ◌≤◌, ◌<◌}
use native.Mathlib.Omega.{arith}
use mathlib.Core.Path.{◌≡◌, refl, sym, ap, ◌∙◌}
use mathlib.Core.List.{List, [], ◌++◌}
use lib.Dec.{ltb}
use lib.ListN.{length, take, drop, length-append}
use lib.Seq.{take-append_seam}
use borrow.Author.Tests.{ltb-false}
use borrow.Table.Steps.{cases}
use Rattle.wire.specs.Bytes.{Byte}
use Rattle.memory.specs.Store.{laid}
use Rattle.machine.specs.Machine.{Need, acts, runs, Machine}
use Rattle.machine.specs.Outcome.{Outcome, halt, join}
use Rattle.machine.specs.Call.{standing_of, call}
use Rattle.machine.specs.Uncut.{uncut}
use Rattle.machine.specs.History.{Event}
use Rattle.machine.specs.Lawful.{Any, Lawful}
use Rattle.machine.specs.Session.{Session, sound, accepted, result_of}
use Rattle.machine.specs.SessionLaws.{Faithful}
use Rattle.machine.specs.Listing.{given}
use Rattle.machine.specs.declared.Record.{Record}
use Rattle.machine.proofs.Outcomes.{halt-join}
use Rattle.machine.proofs.Actions.{uncut-run, uncut-short}
use Rattle.machine.proofs.Paths.{all_any, call-came, at-start, call-keeps, path-continues}
use Rattle.machine.proofs.Stops.{stands-running, stands-waiting, call-blocked}
use Rattle.machine.proofs.Sessions.{result-is, takes_all}
use Rattle.joining.specs.Diligence.{Brief}
use Rattle.joining.proofs.Briefs.{does-brief}
use Rattle.rom_flow.specs.Flow as receiver
use Rattle.rom_flow.specs.Due as receiver-due
use Rattle.uartboot_flow.specs.Flow as device
use Rattle.uartboot_flow.specs.Due as device-due
use Rattle.sessions.specs.Kind.{Kind, rom_p, rom_e, uartboot, MemoriesOf, session_of, fresh_of, fresh_record_of}
use Rattle.sessions.specs.Definition.{definition}
use Rattle.sessions.specs.Onward.{Reached, fresh, called, nothing, and_then, onward, PieceByPiece}
use Rattle.sessions.proofs.Theorem.{follows, reaches}

-- a standing of 2 says that an action has its symbols in view; there is no other standing than 1, 2 and 3
record Chokes (n : Need) (left : ℕ) : Type 0 where
  views : ℕ
  need-is : n ≡ acts views
  enough : views ≤ left

stands-choked : (n : Need) (left : ℕ) → standing_of n left ≡ 2 → Chokes n left
stands-choked runs left e = absurd (let z : ⊥ = omega arith in z)
stands-choked (acts views) left e =
    cases (ltb left views) (λ t. absurd (other 1 (rw t at e) (omega arith))) (λ f. record { views = views; need-is = refl; enough = ltb-false _ _ f })
  where
    other : (k : ℕ) → k ≡ 2 → k < 2 → ⊥
    other k q h = omega arith

stands-known : (n : Need) (left : ℕ) → (1 ≤ standing_of n left) × (standing_of n left ≤ 3)
stands-known runs left = (omega arith, omega arith)
stands-known (acts views) left = cases (ltb left views) (λ t. rw t (omega arith, omega arith)) (λ f. rw f (omega arith, omega arith))

module _ {M S : Type 0} (σ : Session ℕ M S) {freshS : M → S} {Sound : S → Type 0} {Invariant : List (Event ℕ S) → S → Type 0} (law : Faithful σ Byte freshS Sound Invariant)
    (free : Lawful σ.machine Any Sound) where
  abbrev m : Machine ℕ S
  m = σ.machine

  -- a record and memories are those of a sound state
  record At (r : Record) (mem : M) : Type 0 where
    state : S
    is-sound : Sound state
    record_is : r ≡ σ.write state
    memories-is : mem ≡ σ.memories state

  module _ {r : Record} {mem : M} (k : At r mem) where
    reads : σ.read r mem ≡ sound k.state
    reads = rw (k.record_is, k.memories-is) (law.reads_back k.state k.is-sound)

    onward-is : (stream : List ℕ) → onward σ r mem stream ≡ given σ (uncut m k.state stream)
    unfolding onward
    onward-is stream = rw reads refl

    accepts : (input reply : List ℕ) → result_of σ r mem input reply ≡ accepted σ k.state input reply
    accepts input reply = rw (k.record_is, k.memories-is) (result-is σ law (λ events s h. h) k.state k.is-sound input reply)

    nothing_is : nothing r mem ≡ given σ (halt k.state)
    nothing_is = rw (k.record_is, k.memories-is) refl

    at_next : (input reply : List ℕ) → let a = result_of σ r mem input reply in At a.report.session a.memories
    unfolding accepted
    at_next input reply =
        record {
          state = (call m k.state input (length reply)).final;
          is-sound = call-keeps m free k.state input free.stays_sound (all_any input) k.is-sound (length reply);
          record_is = rw (accepts input reply) refl;
          memories-is = rw (accepts input reply) refl;
        }

  module _ {r : Record} {mem : M} (k : At r mem) (stream : List ℕ) (shown : ℕ) (reply : List ℕ) where
    abbrev input : List ℕ
    input = take shown stream

    abbrev p : Outcome S
    p = call m k.state input (length reply)

    -- the machine's definition, from the call on
    continues : uncut m k.state stream ≡ join p (uncut m p.final (drop p.taken stream))
    continues =
        let s = k.state in
        let c = call-came m free s stream (halt s) (at-start m free s stream) shown (length reply) in
        path-continues m free s stream k.is-sound (all_any stream) (rw (halt-join s p) at c).way

    next : At (result_of σ r mem input reply).report.session (result_of σ r mem input reply).memories
    next = at_next k input reply

    -- what the definition gives in all: what the call gave, and then what it gives from there
    parts : let u = uncut m p.final (drop p.taken stream) in given σ (join p u) ≡ and_then (accepted σ k.state input reply) (given σ u)
    unfolding accepted
    parts =
        let u = uncut m p.final (drop p.taken stream) in
        let sent : length (p.replies ++ u.replies) ≡ length p.replies + length u.replies = length-append p.replies u.replies in
        let said : p.replies ≡ take (length p.replies) (laid p.replies reply) = sym (take-append_seam p.replies (drop (length p.replies) reply)) in
        ap (λ n. record { replies = p.replies ++ u.replies; taken = p.taken + u.taken; sent = n; session = σ.write u.final; memories = σ.memories u.final }) sent
        ∙ ap (λ (bytes : List ℕ). record { replies = bytes ++ u.replies; taken = p.taken + u.taken; sent = length p.replies + length u.replies; session = σ.write u.final; memories = σ.memories u.final }) said

    goes_on : let a = result_of σ r mem input reply in
        onward σ r mem stream ≡ and_then a (onward σ a.report.session a.memories (drop a.report.taken stream))
    unfolding accepted at_next next
    goes_on =
        let a = result_of σ r mem input reply in
        let taken : a.report.taken ≡ p.taken = rw (accepts k input reply) refl in
        let later : onward σ a.report.session a.memories (drop a.report.taken stream) ≡ given σ (uncut m p.final (drop p.taken stream)) =
        onward-is next (drop a.report.taken stream) ∙ ap (λ n. given σ (uncut m p.final (drop n stream))) taken in
        onward-is k stream ∙ ap (given σ) continues ∙ parts
        ∙ ap (λ x. and_then x (given σ (uncut m p.final (drop p.taken stream)))) (sym (accepts k input reply))
        ∙ ap (and_then a) (sym later)

    -- where the call stands
    stands_at : (result_of σ r mem input reply).report.standing ≡ standing_of (m.need p.final) (length (drop p.taken input))
    unfolding accepted
    stands_at = rw (accepts k input reply) refl

    known : let a = result_of σ r mem input reply in (1 ≤ a.report.standing) × (a.report.standing ≤ 3)
    known = rw stands_at (stands-known (m.need p.final) (length (drop p.taken input)))

    sent_is : (result_of σ r mem input reply).report.sent ≡ length p.replies
    unfolding accepted
    sent_is = rw (accepts k input reply) refl

    taken_is : (result_of σ r mem input reply).report.taken ≡ p.taken
    unfolding accepted
    taken_is = rw (accepts k input reply) refl

    -- a state where the definition does nothing
    over : (left : List ℕ) → uncut m p.final left ≡ halt p.final →
        let a = result_of σ r mem input reply in onward σ a.report.session a.memories left ≡ nothing a.report.session a.memories
    unfolding at_next next
    over left e = onward-is next left ∙ ap (given σ) e ∙ sym (nothing_is next)

    runs_on : (left : List ℕ) → let a = result_of σ r mem input reply in
        a.report.standing ≡ 3 → onward σ a.report.session a.memories left ≡ nothing a.report.session a.memories
    runs_on left e = over left (uncut-run m free p.final left (stands-running (m.need p.final) (length (drop p.taken input)) (sym stands_at ∙ e)))

    waits-on : let a = result_of σ r mem input reply in
        a.report.standing ≡ 1 → onward σ a.report.session a.memories [] ≡ nothing a.report.session a.memories
    waits-on e =
        let l = stands-waiting (m.need p.final) (length (drop p.taken input)) (sym stands_at ∙ e) in
        over [] (uncut-short m free p.final [] l.views l.need-is (omega (arith, l.less)))

    fills : Brief m → (result_of σ r mem input reply).report.standing ≡ 2 → (result_of σ r mem input reply).report.sent ≡ length reply
    fills brief e =
        let b = call-blocked m free k.state input (length reply) in
        let l = stands-choked (m.need p.final) (length (drop p.taken input)) (sym stands_at ∙ e) in
        let room = b.full l.views l.need-is l.enough in
        omega (arith, room, brief p.final (take l.views (drop p.taken input)), b.fits, sent_is)

-- a kind's session sends at most one byte with each action
briefly : (kind : Kind) → Brief (session_of kind).machine
briefly rom_p = does-brief receiver.does receiver-due.due
briefly rom_e = does-brief receiver.does receiver-due.due
briefly uartboot = does-brief device.does device-due.due

module _ (kind : Kind) where
  abbrev law : Faithful (session_of kind) Byte (fresh_of kind) (follows kind).Sound (follows kind).Invariant
  law = (follows kind).law

  abbrev free : Lawful (session_of kind).machine Any (follows kind).Sound
  free = (follows kind).free

  at_first : (mem : MemoriesOf kind) → (session_of kind).refusal mem ≡ 0 → At (session_of kind) law free (fresh_record_of kind) mem
  at_first mem e =
      record {
        state = fresh_of kind mem;
        is-sound = law.fresh_sound mem e;
        record_is = sym ((reaches kind).starts_fresh mem);
        memories-is = sym (law.fresh_memories mem);
      }

  first-onward : (mem : MemoriesOf kind) (stream : List ℕ) → (session_of kind).refusal mem ≡ 0 → onward (session_of kind) (fresh_record_of kind) mem stream ≡ definition kind mem stream
  unfolding at_first
  first-onward mem stream e = onward-is (session_of kind) law free (at_first mem e) stream

  reached-at : {r : Record} {mem : MemoriesOf kind} → Reached kind r mem → At (session_of kind) law free r mem
  reached-at (fresh {mem = mem} e) = at_first mem e
  reached-at (called k input reply) = at_next (session_of kind) law free (reached-at k) input reply

-- a stream may be played piece by piece
pub piece-by-piece : PieceByPiece
piece-by-piece kind =
    let σ = session_of kind in
    record {
      starts = first-onward kind;
      calls = λ r mem reached stream shown reply.
          let k = reached-at kind reached in
          let b = call-blocked σ.machine (free kind) k.state (take shown stream) (length reply) in
          record {
            goes_on = goes_on σ (law kind) (free kind) k stream shown reply;
            taken_within = omega (arith, b.within, taken_is σ (law kind) (free kind) k stream shown reply);
            sent_within = omega (arith, b.fits, sent_is σ (law kind) (free kind) k stream shown reply);
            waits = λ e. (takes_all σ (free kind) (follows kind).one r mem (take shown stream) reply e, waits-on σ (law kind) (free kind) k stream shown reply e);
            full = fills σ (law kind) (free kind) k stream shown reply (briefly kind);
            runs = runs_on σ (law kind) (free kind) k stream shown reply;
            stands = known σ (law kind) (free kind) k stream shown reply;
          };
    }
