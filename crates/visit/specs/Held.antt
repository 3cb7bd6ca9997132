-- A comparison on its way, for a program that gets the replies piece by piece.
-- Assumes nothing.
use Rattle.std.specs.Prelude.{ℕ, ◌+◌, ◌^◌, ◌<◌, ◌≡◌, Bool, false, List, [], ◌∷◌, ◌++◌, eqb, length, Result, Ok, Err, IfOk}
use Rattle.std.specs.Borrow.{Bor}
use Rattle.recording.specs.Form.{device_kind}
use Rattle.recording.specs.Left.{left_in, IsRun, LiesIn}
use Rattle.visit.specs.Compared.{Verdict, differs, compared_from}
use Rattle.visit.specs.declared.held.Held.{Held}

-- the next byte that is left is this one
abbrev pub is_next : (byte : ℕ) (left : List ℕ) → Bool
is_next byte [] = false
is_next byte (next ∷ left) = eqb next byte

-- the verdict, if the replies go on so: it is known, once a byte has differed
abbrev pub verdict_of : Result Held ℕ → (more : List ℕ) → Verdict
verdict_of (Ok held) more = compared_from held.place (left_in held.run) more
verdict_of (Err place) more = differs place

-- it has come to a run of the device's, and counts no more bytes than a memory holds
pub record IsHeld (held : Held) : Type 0 where
  pub is_run : IsRun held.run
  pub of_device : held.run.kind ≡ device_kind
  pub counted : held.place + length (left_in held.run) < 2 ^ 64

-- its run lies in lent bytes, so far past `from` at least as bytes were counted
abbrev pub HeldIn : (whole : Bor (List ℕ)) (from : ℕ) → Held → Type 0
HeldIn whole from held = LiesIn whole (from + held.place) held.run

-- some replies further on, in whatever its run lies
pub record Holds (held : Result Held ℕ) (replies : List ℕ) (next : Result Held ℕ) : Type 0 where
  pub is_held : IfOk next IsHeld
  pub verdict : (more : List ℕ) → verdict_of held (replies ++ more) ≡ verdict_of next more
  pub lies : (whole : Bor (List ℕ)) (from : ℕ) → IfOk held (HeldIn whole from) → IfOk next (HeldIn whole from)
