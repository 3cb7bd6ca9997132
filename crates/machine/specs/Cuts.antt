-- Over any machine, the cuts of the stream and the room of each call never change the outcome (rules, 3.5).
-- Assumes nothing.
use Rattle.std.specs.Prelude.{ℕ, ◌+◌, ◌≤◌, ◌≡◌, List, ◌++◌, length, take, drop}
use Rattle.machine.specs.Machine.{Machine}
use Rattle.machine.specs.Outcome.{Outcome}
use Rattle.machine.specs.Call.{Call, standing, call, calls}
use Rattle.machine.specs.Uncut.{uncut}
use Rattle.machine.specs.History.{Came}
use Rattle.machine.specs.Lawful.{Every}

-- a list is a beginning of another
pub record Begins {A : Type 0} (front whole : List A) : Type 0 where
  pub back : List A
  pub is : whole ≡ front ++ back

module _ {A S : Type 0} (m : Machine A S) where
  -- no action is possible at s with these symbols left, whatever the room
  pub data Stopped (s : S) (left : List A) : Type 0 where
    waits : standing m s left ≡ 1 → Stopped s left
    running : standing m s left ≡ 3 → Stopped s left

  -- o is what a list of calls gives from `start` over a stream, u what the uncut definition gives
  pub record Agrees (start : S) (stream : List A) (o u : Outcome S) : Type 0 where
    -- the definition stops since input is missing, or since code runs
    pub definition_stops : Stopped u.final (drop u.taken stream)
    -- always: the replies are a beginning of the definition's, and no more is taken
    pub replies_begin : Begins o.replies u.replies
    pub taken_within : o.taken ≤ u.taken
    -- waiting for more than the stream has, or code running: the outcome is the definition's
    pub stopped : Stopped o.final (drop o.taken stream) → o ≡ u
    -- the next call, with room for the replies that are still missing, doesn't wait for room
    pub enough_room : (shown room : ℕ) → length u.replies ≤ length o.replies + room →
        let input = take shown (drop o.taken stream) in
        let c = call m o.final input room in
        Stopped c.final (drop c.taken input)
    -- actions of the machine lead to both
    pub history : Came m start stream o × Came m start stream u

  -- for every list of calls over every stream of good symbols, from every sound state
  abbrev pub CutsNeverMatter : (Good : A → Type 0) (Sound : S → Type 0) → Type 0
  CutsNeverMatter Good Sound =
      (start : S) → Sound start → (stream : List A) → Every Good stream → (cs : List Call) →
      Agrees start stream (calls m start stream cs) (uncut m start stream)
