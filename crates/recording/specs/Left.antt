-- What is left of the joined bytes of a kind, for a program that goes through the entries: a run of bytes, and the entries after it.
-- Assumes nothing.
use Rattle.std.specs.Prelude.{ℕ, ◌+◌, ◌≤◌, ◌≡◌, List, [], ◌++◌, length}
use Rattle.std.specs.Borrow.{Bor}
use Rattle.wire.specs.Part.{IsPart}
use Rattle.recording.specs.Recording.{entries_of, fault_of, joined_in}
use Rattle.recording.specs.declared.run.Run.{Run}

-- those of these entries
abbrev pub left_from : (kind : ℕ) (entries : List ℕ) → List ℕ
left_from kind entries = joined_in kind (entries_of entries)

-- those of a run, and of the entries after it
abbrev pub left_in : Run → List ℕ
left_in run = run.bytes.now ++ left_from run.kind run.after.now

-- these are entries
pub record Readable (entries : List ℕ) : Type 0 where
  pub no_fault : fault_of (entries_of entries) ≡ 0

-- a run; where it is empty, no entries are after it
pub record IsRun (run : Run) : Type 0 where
  pub readable : Readable run.after.now
  pub at_end : run.bytes.now ≡ [] → run.after.now ≡ []

-- a run of this kind, which leaves what is given
pub record Leaves (kind : ℕ) (left : List ℕ) (run : Run) : Type 0 where
  pub is_run : IsRun run
  pub same_kind : run.kind ≡ kind
  pub left_is : left_in run ≡ left

-- a run lies in lent bytes, at `from` or later: its bytes, and from their end to the end of all the entries after it. So an empty run, which
-- has no entries after it, is at the end.
pub record LiesIn (whole : Bor (List ℕ)) (from : ℕ) (run : Run) : Type 0 where
  pub place : ℕ
  pub further : from ≤ place
  pub bytes_there : IsPart run.bytes whole place (length run.bytes.now)
  pub after_there : IsPart run.after whole (place + length run.bytes.now) (length run.after.now)
  pub to_end : place + length run.bytes.now + length run.after.now ≡ length whole.now

-- in whatever a run lies, there the next one does too, so many bytes further on or more
pub record StaysIn (count : ℕ) (run next : Run) : Type 0 where
  pub lies : (whole : Bor (List ℕ)) (from : ℕ) → LiesIn whole from run → LiesIn whole (from + count) next
