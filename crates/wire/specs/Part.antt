-- Parts of lent slices (rules, 11.2 and 12.2).
-- Assumes nothing.
use Rattle.std.specs.Prelude.{ℕ, ◌+◌, ◌≡◌, List, take, drop}
use Rattle.std.specs.Borrow.{Bor}

-- `part` is the `size` bytes of `whole` from `place` on: it lies there in the same memory, and holds the same bytes
pub record IsPart (part whole : Bor (List ℕ)) (place size : ℕ) : Type 0 where
  pub memory : part.ref_ptr.0 ≡ whole.ref_ptr.0
  pub begins : part.ref_ptr.1 ≡ place + whole.ref_ptr.1
  pub bytes : part.now ≡ take size (drop place whole.now)
