-- What a session must keep to, so that its lists of calls follow the uncut definition. Every record that calls can reach is read
-- as the state that wrote it.
-- Assumes nothing.
use Rattle.std.specs.Prelude.{ℕ, ◌≤◌, ◌<◌, ◌≡◌, List, [], length}
use Rattle.machine.specs.Machine.{acts, Machine}
use Rattle.machine.specs.History.{Event}
use Rattle.machine.specs.Lawful.{Kept, Lawful}
use Rattle.machine.specs.Session.{Session, sound}

-- no action has more than one symbol in view
abbrev pub OneByOne : {A S : Type 0} → Machine A S → Type 0
OneByOne {A} {S} m = (s : S) (views : ℕ) → m.need s ≡ acts views → views ≤ 1

-- Good: the symbols of a stream. Sound: what every state that calls can reach satisfies. Invariant: what the events on the way and the
-- state that they led to satisfy
pub record Faithful {A M S : Type 0} (σ : Session A M S) (Good : A → Type 0) (fresh : M → S) (Sound : S → Type 0) (Invariant : List (Event A S) → S → Type 0) : Type 0 where
  pub lawful : Lawful σ.machine Good Sound
  -- an action with nothing in view sends
  pub speaks : (s : S) → σ.machine.need s ≡ acts 0 → 0 < length (σ.machine.says s [])
  -- a fresh session is sound and has the memories as first lent
  pub fresh_sound : (mem : M) → σ.refusal mem ≡ 0 → Sound (fresh mem)
  pub fresh_memories : (mem : M) → σ.memories (fresh mem) ≡ mem
  -- the lengths stay, and the record is read back
  pub fits : (s : S) → Sound s → σ.refusal (σ.memories s) ≡ 0
  pub reads_back : (s : S) → Sound s → σ.read (σ.write s) (σ.memories s) ≡ sound s
  -- the invariant holds at the start, and every action keeps it
  pub at_first : (mem : M) → σ.refusal mem ≡ 0 → Invariant [] (fresh mem)
  pub kept : Kept σ.machine Good Invariant
