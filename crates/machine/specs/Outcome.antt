-- What actions give: the bytes sent, how many symbols were taken, and the state reached.
-- Assumes nothing.
use Rattle.std.specs.Prelude.{ℕ, ◌+◌, List, [], ◌++◌}

pub record Outcome (S : Type 0) : Type 0 where
  pub replies : List ℕ
  pub taken : ℕ
  pub final : S

module _ {S : Type 0} where
  -- nothing is done at s
  abbrev pub halt : S → Outcome S
  halt s = record { replies = []; taken = 0; final = s }

  -- one action
  abbrev pub acted : (said : List ℕ) (taken : ℕ) → S → Outcome S
  acted said taken s = record { replies = said; taken = taken; final = s }

  -- a and then b
  abbrev pub join : Outcome S → Outcome S → Outcome S
  join a b = record { replies = a.replies ++ b.replies; taken = a.taken + b.taken; final = b.final }
