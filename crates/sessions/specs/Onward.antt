-- Demand 3 (rules, 3.5) for a program that makes one call after the other, and asks what is still to come: what the definition gives from a
-- call's record on is what it gave before the call, less what the call gave. So a stream may be played piece by piece.
-- Assumes nothing.
use Rattle.std.specs.Prelude.{ℕ, ◌+◌, ◌≤◌, ◌≡◌, List, [], ◌++◌, length, take, drop}
use Rattle.machine.specs.Session.{Session, GivenBack, Read, sound, unsound, result_of}
use Rattle.machine.specs.Listing.{Given, totals, definition_of}
use Rattle.machine.specs.declared.Record.{Record}
use Rattle.sessions.specs.Kind.{Kind, MemoriesOf, session_of, fresh_record_of}
use Rattle.sessions.specs.Definition.{definition}

-- records and memories to which calls have led, from a fresh record on
pub data Reached (kind : Kind) : Record → MemoriesOf kind → Type 0 where
  fresh : {mem : MemoriesOf kind} → (session_of kind).refusal mem ≡ 0 → Reached kind (fresh_record_of kind) mem
  called : {r : Record} {mem : MemoriesOf kind} → Reached kind r mem → (input reply : List ℕ) →
      Reached kind (result_of (session_of kind) r mem input reply).report.session (result_of (session_of kind) r mem input reply).memories

-- nothing is taken or sent any more
abbrev pub nothing : {M : Type 0} → Record → M → Given M
nothing r mem = totals r mem []

-- what a call gave, and then what came after it
abbrev pub and_then : {M : Type 0} → GivenBack M → Given M → Given M
and_then a g =
    record {
      replies = take a.report.sent a.reply ++ g.replies;
      taken = a.report.taken + g.taken;
      sent = a.report.sent + g.sent;
      session = g.session;
      memories = g.memories;
    }

module _ {M S : Type 0} (σ : Session ℕ M S) where
  abbrev pub onward_at : Read S → Record → M → (stream : List ℕ) → Given M
  onward_at (sound s) r mem stream = definition_of σ s stream
  onward_at unsound r mem stream = nothing r mem

  -- what the definition gives for a stream from a record on
  unfoldable pub onward : Record → M → (stream : List ℕ) → Given M
  onward r mem stream = onward_at (σ.read r mem) r mem stream

-- a call on a front of what is left of the stream, with any reply slice
pub record Call (kind : Kind) (r : Record) (mem : MemoriesOf kind) (stream : List ℕ) (shown : ℕ) (reply : List ℕ) (a : GivenBack (MemoriesOf kind)) : Type 0 where
  pub goes_on : onward (session_of kind) r mem stream ≡ and_then a (onward (session_of kind) a.report.session a.memories (drop a.report.taken stream))
  pub taken_within : a.report.taken ≤ length (take shown stream)
  pub sent_within : a.report.sent ≤ length reply
  -- it waits for a byte: all it was shown is taken, and with nothing left nothing is still to come
  pub waits : a.report.standing ≡ 1 →
      (a.report.taken ≡ length (take shown stream)) × (onward (session_of kind) a.report.session a.memories [] ≡ nothing a.report.session a.memories)
  -- it waits for room: the reply is full
  pub full : a.report.standing ≡ 2 → a.report.sent ≡ length reply
  -- code runs: nothing is still to come, whatever is left
  pub runs : (left : List ℕ) → a.report.standing ≡ 3 →
      onward (session_of kind) a.report.session a.memories left ≡ nothing a.report.session a.memories
  -- it stands at one of these
  pub stands : (1 ≤ a.report.standing) × (a.report.standing ≤ 3)

pub record Onward (kind : Kind) : Type 0 where
  -- from a fresh record on it is the definition
  pub starts : (mem : MemoriesOf kind) (stream : List ℕ) → (session_of kind).refusal mem ≡ 0 → onward (session_of kind) (fresh_record_of kind) mem stream ≡ definition kind mem stream
  pub calls : (r : Record) (mem : MemoriesOf kind) → Reached kind r mem → (stream : List ℕ) (shown : ℕ) (reply : List ℕ) →
      Call kind r mem stream shown reply (result_of (session_of kind) r mem (take shown stream) reply)

abbrev pub PieceByPiece : Type 0
PieceByPiece = (kind : Kind) → Onward kind
