-- What C gets of a session call (rules, 3.2 and 3.3): the report by value, the record in its eight words, and the lent slices.
-- Assumes nothing.
use Rattle.std.specs.Prelude.{ℕ, cond, List, eqb}
use Rattle.machine.specs.Session.{GivenBack}
use Rattle.machine.specs.Words.{words_of}
use Rattle.machine.specs.declared.Report.{Report}
use Rattle.called.specs.declared.Called.{Called}

abbrev pub called_of : Report → Called
called_of r = record { number = r.number; standing = r.standing; taken = r.taken; sent = r.sent }

-- the words after a call: a refused call leaves them as they were
abbrev pub words_after : Report → (words : List ℕ) → List ℕ
words_after r words = cond (eqb r.number 0) (words_of r.session) words

-- what C gets, with memories M
pub record Handed (M : Type 0) : Type 0 where
  pub called : Called
  pub words : List ℕ
  pub reply : List ℕ
  pub memories : M

abbrev pub handed : {M : Type 0} → Called → (words reply : List ℕ) → M → Handed M
handed called words reply mem = record { called = called; words = words; reply = reply; memories = mem }

abbrev pub handed_of : {M : Type 0} → GivenBack M → Handed M
handed_of a = handed (called_of a.report) (words_of a.report.session) a.reply a.memories
