-- A record and its eight words.
-- Assumes nothing.
use Prim.Native.Nat.{ℕ, suc, ◌<◌, ◌≤◌}
use native.Mathlib.Omega.{arith}
use mathlib.Core.Path.{◌≡◌, refl, ap, ◌∙◌}
use mathlib.Core.List.{List, [], ◌∷◌}
use lib.ListN.{length, drop, get_or, drop_of_length-le}
use lib.Seq.{drop-cons}
use Rattle.machine.specs.Words.{record_of, words_of}
use Rattle.machine.specs.declared.Record.{Record}

pub record-back : (r : Record) → record_of (words_of r) ≡ r
record-back r = refl

-- eight words are those of the record that they make
pub words_back : (words : List ℕ) → length words ≡ 8 → words ≡ words_of (record_of words)
words_back words l = at 0 (at 1 (at 2 (at 3 (at 4 (at 5 (at 6 (at 7 none (omega arith)) (omega arith)) (omega arith)) (omega arith)) (omega arith)) (omega arith)) (omega arith)) (omega arith)
  where
    none : drop 8 words ≡ []
    none = let h : length words ≤ 8 = omega arith in drop_of_length-le words h

    at : (i : ℕ) {rest : List ℕ} → drop (suc i) words ≡ rest → i < length words → drop i words ≡ get_or words i 0 ∷ rest
    at i e h = drop-cons words i 0 h ∙ ap (λ (r : List ℕ). get_or words i 0 ∷ r) e
