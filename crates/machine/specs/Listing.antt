-- A list of calls to one session, each with the record and the memories that the one before it left (rules, 3.5), and what the
-- uncut definition gives (rules, 3.4).
-- Assumes nothing.
use Rattle.std.specs.Prelude.{ℕ, ◌+◌, ◌≡◌, List, [], ◌∷◌, ◌++◌, length, take, drop}
use Rattle.machine.specs.Outcome.{Outcome}
use Rattle.machine.specs.Uncut.{uncut}
use Rattle.machine.specs.Session.{Session, GivenBack, result_of}
use Rattle.machine.specs.declared.Record.{Record}

-- a call of the list: how many of the symbols not yet taken it is shown, and the reply slice that it is lent
pub record Lent : Type 0 where
  pub shown : ℕ
  pub reply : List ℕ

-- what a list of calls, or the uncut definition, gives
pub record Given (M : Type 0) : Type 0 where
  pub replies : List ℕ
  pub taken : ℕ
  pub sent : ℕ
  pub session : Record
  pub memories : M

-- a list's totals: the joined replies (the sent bytes of all calls in call order), the total counts (the calls' counts added up), and
-- the last record and memories
abbrev pub totals : {M : Type 0} → Record → M → List (GivenBack M) → Given M
totals session mem [] = record { replies = []; taken = 0; sent = 0; session = session; memories = mem }
totals session mem (a ∷ later) =
    let g = totals a.report.session a.memories later in
    record {
      replies = take a.report.sent a.reply ++ g.replies;
      taken = a.report.taken + g.taken;
      sent = a.report.sent + g.sent;
      session = g.session;
      memories = g.memories;
    }

module _ {A M S : Type 0} (σ : Session A M S) where
  -- what the calls of a list give back, where `rest` is the part of the stream not yet taken
  unfoldable pub results : Record → M → (rest : List A) → List Lent → List (GivenBack M)
  results session mem rest [] = []
  results session mem rest (c ∷ later) =
      let a = result_of σ session mem (take c.shown rest) c.reply in
      a ∷ results a.report.session a.memories (drop a.report.taken rest) later

  -- an outcome of the machine, as the caller would see it
  abbrev pub given : Outcome S → Given M
  given o =
      record {
        replies = o.replies;
        taken = o.taken;
        sent = length o.replies;
        session = σ.write o.final;
        memories = σ.memories o.final;
      }

  -- what the definition gives for the uncut stream, from a state on: its replies, its memories, how many bytes it took and sent, and a
  -- record
  abbrev pub definition_of : S → (stream : List A) → Given M
  definition_of start stream = given (uncut σ.machine start stream)

  -- what a program's calls gave back, each as the definition says, with the record and the memories that the one before it left
  pub data Made : Record → M → (rest : List A) → List Lent → List (GivenBack M) → Type 0 where
    none : {session : Record} {mem : M} {rest : List A} → Made session mem rest [] []
    next : {session : Record} {mem : M} {rest : List A} {c : Lent} {later : List Lent} {a : GivenBack M} {others : List (GivenBack M)} →
        a ≡ result_of σ session mem (take c.shown rest) c.reply →
        Made a.report.session a.memories (drop a.report.taken rest) later others →
        Made session mem rest (c ∷ later) (a ∷ others)
