-- What C gets of a call, accepted or refused.
-- Assumes nothing.
use Rattle.std.specs.Prelude.{Result, Ok, Err, MatchResult, IsErrAnd}
use Prim.Native.Nat.{ℕ}
use mathlib.Core.Path.{◌≡◌, refl, sym, ap, ◌∙◌}
use mathlib.Core.Bool.{false}
use mathlib.Core.List.{List}
use lib.Dec.{eqb}
use borrow.Author.Tests.{eqb-false}
use borrow.Table.Steps.{cases}
use Rattle.machine.specs.Session.{Session, GivenBack, refused_report, result_of}
use Rattle.machine.specs.Told.{told}
use Rattle.machine.specs.Words.{record_of, words_of}
use Rattle.machine.specs.declared.Record.{Record}
use Rattle.machine.specs.declared.Report.{Report}
use Rattle.machine.specs.declared.Accepted.{Accepted}
use Rattle.machine.proofs.Refusals.{refused-keeps}
use Rattle.called.specs.Called.{called_of, words_after, handed, handed_of}
use Rattle.called.specs.declared.Called.{Called}

-- a session call on the record r that the words make
module _ {A M S : Type 0} (σ : Session A M S) (words : List ℕ) (mem : M) (input : List A) (reply : List ℕ) (r : Record)
    (made : (r ≡ record_of words) × (words_of r ≡ words))
    (report : Report) (reply' : List ℕ) (mem' : M) (e : record { report = report; reply = reply'; memories = mem' } ≡ result_of σ r mem input reply) where
  -- the words that a refused call leaves are those of the record that it hands back
  words_back : words_after report words ≡ words_of report.session
  words_back = cases (eqb report.number 0) (λ t. rw t refl) (λ f. rw f (sym made.1 ∙ ap words_of (sym (same f))))
    where
      same : eqb report.number 0 ≡ false → report.session ≡ r
      same f =
          ap (λ (a : GivenBack M). a.report.session) e
          ∙ refused-keeps σ r mem input reply (λ z. eqb-false _ _ f (ap (λ (a : GivenBack M). a.report.number) e ∙ z))

  pub handed-back : (words' : List ℕ) (c : Called) → (c ≡ called_of report) × (words' ≡ words_after report words) →
      handed c words' reply' mem' ≡ handed_of (result_of σ (record_of words) mem input reply)
  handed-back words' c back =
      rw (back.1 ∙ words_back, back.0) (ap (λ (a : GivenBack M). handed_of a) e ∙ ap (λ (x : Record). handed_of (result_of σ x mem input reply)) made.0)

-- refusals told by their numbers
told-numbered : {E : Type 0} (number : E → ℕ) (r : Record) (outcome : Result Accepted E) (numbered : Result Accepted ℕ) (Gives : E → ℕ → Type 0) →
    MatchResult outcome (λ done. numbered ≡ Ok done) (λ why. IsErrAnd numbered (Gives why)) →
    ((why : E) (n : ℕ) → Gives why n → n ≡ number why) → told (λ n. n) r numbered ≡ told number r outcome
told-numbered number r (Ok done) numbered Gives e is = ap (λ (o : Result Accepted ℕ). told (λ n. n) r o) e
told-numbered number r (Err why) (Ok done) Gives e is = absurd e
told-numbered number r (Err why) (Err n) Gives e is = ap (λ (k : ℕ). refused_report k r) (is why n e)

-- the report that a call's outcome makes, once `Gives` has made a number of its refusal
pub reported : {M E : Type 0} {a : GivenBack M} (number : E → ℕ) (r : Record) (outcome : Result Accepted E) (numbered : Result Accepted ℕ) (report : Report)
    (reply : List ℕ) (mem : M) (Gives : E → ℕ → Type 0) →
    MatchResult outcome (λ done. numbered ≡ Ok done) (λ why. IsErrAnd numbered (Gives why)) →
    ((why : E) (n : ℕ) → Gives why n → n ≡ number why) → report ≡ told (λ n. n) r numbered →
    record { report = told number r outcome; reply = reply; memories = mem } ≡ a → record { report = report; reply = reply; memories = mem } ≡ a
reported number r outcome numbered report reply mem Gives given is of e =
    ap (λ (x : Report). record { report = x; reply = reply; memories = mem }) (of ∙ told-numbered number r outcome numbered Gives given is) ∙ e
