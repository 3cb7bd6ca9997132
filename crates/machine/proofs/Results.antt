-- A session call's result, case by case: lengths refused, the record refused, accepted.
-- Assumes nothing.
use Prim.Native.Nat.{ℕ}
use mathlib.Core.Path.{◌≡◌, refl}
use mathlib.Core.List.{List}
use borrow.Author.Tests.{ne_eqb}
use Rattle.machine.specs.Loop.{Acted}
use Rattle.machine.specs.Session.{Session, GivenBack, sound, unsound, bad_record, refused_report, accepted, result_of}
use Rattle.machine.specs.declared.Record.{Record}
use Rattle.machine.specs.declared.Report.{Report}

module _ {A M S : Type 0} (σ : Session A M S) (session : Record) (mem : M) (input : List A) (reply : List ℕ) (r : Report) where
  pub refused-length : (number : ℕ) → number ≡ σ.refusal mem → (number ≡ 0 → ⊥) → r ≡ refused_report number session →
      ◌≡◌ {A = GivenBack M} (record { report = r; reply = reply; memories = mem }) (result_of σ session mem input reply)
  unfolding result_of
  refused-length number e h q = rw (q, ← e, ne_eqb number 0 h)

  module _ (fits : σ.refusal mem ≡ 0) where
    pub refused-record : σ.read session mem ≡ unsound → r ≡ refused_report bad_record session →
        ◌≡◌ {A = GivenBack M} (record { report = r; reply = reply; memories = mem }) (result_of σ session mem input reply)
    unfolding result_of
    refused-record e q = rw q (simp (fits, e))

    -- the loop over the machine's actions, written out
    pub accepted-call : (s : S) → σ.read session mem ≡ sound s → (taken sent stands : ℕ) (final : S) (reply' : List ℕ) →
        Acted σ.machine s input reply taken sent stands final reply' →
        r ≡ record { number = 0; standing = stands; taken = taken; sent = sent; session = σ.write final } →
        ◌≡◌ {A = GivenBack M} (record { report = r; reply = reply'; memories = σ.memories final }) (result_of σ session mem input reply)
    unfolding result_of accepted
    accepted-call s e taken sent stands final reply' a q =
        rw q (simp (fits, e) (rw (a.taken_is, a.sent_is, a.stands_is, a.reply_is, a.final_is) refl))
