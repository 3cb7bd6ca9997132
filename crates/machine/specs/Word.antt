-- A number of two bytes in a reply: both, or the low one alone where the reply ends behind it.
-- Assumes nothing.
use Rattle.std.specs.Prelude.{ℕ, ◌+◌, cond, List, eqb, length, set}
use Rattle.numbers.specs.Number.{low_byte, high_byte}
use Rattle.machine.specs.declared.step.Moved.{Moved}

-- the step that follows and how many bytes went, and the reply then
abbrev pub word_sent : {S : Type 0} → (word : ℕ) (half whole : S) (reason j : ℕ) (old : List ℕ) → Moved S × List ℕ
word_sent word half whole reason j old =
    cond (eqb (j + 1) (length old))
    (record { step = half; reason = reason; count = 1 }, set old j (low_byte word))
    (record { step = whole; reason = reason; count = 2 }, set (set old j (low_byte word)) (j + 1) (high_byte word))
