-- The claim about a whole list of calls to one session (rules, 3.5).
-- Assumes nothing.
use Rattle.std.specs.Prelude.{ℕ, ◌+◌, ◌≤◌, ◌≡◌, List, [], map, length, take, drop}
use Rattle.machine.specs.Outcome.{Outcome}
use Rattle.machine.specs.History.{Event, Way, Came}
use Rattle.machine.specs.Lawful.{Every}
use Rattle.machine.specs.Cuts.{Begins}
use Rattle.machine.specs.Session.{Session, GivenBack, sound, refused, result_of}
use Rattle.machine.specs.Listing.{Lent, Given, totals, results, definition_of, Made}
use Rattle.machine.specs.declared.Record.{Record}

-- a call that stopped since input is missing, or since code runs, and not since room is missing
pub data Stops {M : Type 0} (a : GivenBack M) : Type 0 where
  waits : a.report.standing ≡ 1 → Stops a
  running : a.report.standing ≡ 3 → Stops a

-- a call that took nothing and waits for more input than it was shown
pub record Starves {M : Type 0} (a : GivenBack M) : Type 0 where
  pub took_nothing : a.report.taken ≡ 0
  pub waits : a.report.standing ≡ 1

-- where symbols are taken one by one, a call that waits for a symbol has taken all it was shown
abbrev pub TakesAll : {A M S : Type 0} → Session A M S → Type 0
TakesAll {A} {M} σ =
    (session : Record) (mem : M) (input : List A) (reply : List ℕ) → (result_of σ session mem input reply).report.standing ≡ 1 →
    (result_of σ session mem input reply).report.taken ≡ length input

-- where the uncut definition, which gave d for the stream, has stopped: it waits for a symbol with all taken, or code runs. A call with
-- no input and no room would report this
pub data Ended {A M S : Type 0} (σ : Session A M S) (stream : List A) (d : Given M) : Type 0 where
  waits : d.taken ≡ length stream → (result_of σ d.session d.memories [] []).report.standing ≡ 1 → Ended σ stream d
  running : (result_of σ d.session d.memories [] []).report.standing ≡ 3 → Ended σ stream d

-- where symbols are taken one by one, the uncut definition stops nowhere else
abbrev pub DefinitionEnds : {A M S : Type 0} (σ : Session A M S) (Good : A → Type 0) (fresh : M → S) → Type 0
DefinitionEnds {A} {M} σ Good fresh =
    (mem : M) (stream : List A) → Every Good stream → σ.refusal mem ≡ 0 → Ended σ stream (definition_of σ (fresh mem) stream)

-- Told: what the events on the way say of the state that they led to
module _ {A M S : Type 0} (σ : Session A M S) (Told : List (Event A S) → S → Type 0) (start : S) (stream : List A) where
  -- g are the totals of a list of calls that were all accepted
  pub record Follows (g : Given M) : Type 0 where
    pub replies_begin : Begins g.replies (definition_of σ start stream).replies
    pub taken_within : g.taken ≤ (definition_of σ start stream).taken
    pub sent_within : g.sent ≤ (definition_of σ start stream).sent
    -- all is taken and the session waits for a byte, or code runs; a call with no input and no room would report this
    pub all_taken : g.taken ≡ length stream → (result_of σ g.session g.memories [] []).report.standing ≡ 1 → g ≡ definition_of σ start stream
    pub code_runs : (result_of σ g.session g.memories [] []).report.standing ≡ 3 → g ≡ definition_of σ start stream
    -- what is left is less than the next action needs; a call shown all of it, with no room, would report this
    pub too_few_left : Starves (result_of σ g.session g.memories (drop g.taken stream) []) → g ≡ definition_of σ start stream
    -- the next call, with room for the replies that are still missing, doesn't wait for room
    pub enough_room : (shown : ℕ) (reply : List ℕ) → (definition_of σ start stream).sent ≤ g.sent + length reply →
        Stops (result_of σ g.session g.memories (take shown (drop g.taken stream)) reply)
    -- the state that the list has come to, by actions of the machine
    pub reached : S
    pub reached_is : (g.session ≡ σ.write reached) × (g.memories ≡ σ.memories reached)
    pub reads_as : σ.read g.session g.memories ≡ sound reached
    pub history : Came σ.machine start stream (record { replies = g.replies; taken = g.taken; final = reached })
    -- Told holds wherever actions of the machine lead: where the list has come, and at every state on the way
    pub told : (events : List (Event A S)) (o : Outcome S) → Way σ.machine start stream events o → Told events o.final

-- Good: the symbols of a stream
module _ {A M S : Type 0} (σ : Session A M S) (Good : A → Type 0) (Told : List (Event A S) → S → Type 0) (fresh : M → S) where
  -- these are the results of a list of calls from a fresh record, with memories as first lent
  pub record Holds (mem : M) (stream : List A) (cs : List Lent) (given : List (GivenBack M)) : Type 0 where
    -- refused lengths: every call is refused with their number and changes nothing
    pub refused_lengths : (σ.refusal mem ≡ 0 → ⊥) → given ≡ map (λ (c : Lent). refused (σ.refusal mem) (σ.write (fresh mem)) c.reply mem) cs
    -- else no call is refused, and the list follows the definition
    pub no_refusal : σ.refusal mem ≡ 0 → Every (λ (a : GivenBack M). a.report.number ≡ 0) given
    pub follows : σ.refusal mem ≡ 0 → Follows σ Told (fresh mem) stream (totals (σ.write (fresh mem)) mem given)

  -- for all memories, every stream of good symbols and every list of calls, each call being the definition's
  abbrev pub Claim : Type 0
  Claim =
      (mem : M) (stream : List A) → Every Good stream → (cs : List Lent) → Holds mem stream cs (results σ (σ.write (fresh mem)) mem stream cs)

  -- the same for what a program's calls gave back
  abbrev pub MadeClaim : Type 0
  MadeClaim =
      (mem : M) (stream : List A) → Every Good stream → (cs : List Lent) (given : List (GivenBack M)) → Made σ (σ.write (fresh mem)) mem stream cs given →
      Holds mem stream cs given
