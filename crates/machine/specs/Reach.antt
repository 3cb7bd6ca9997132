-- Every record that calls can reach is accepted, with memories of the same lengths (rules, 3.5).
-- Assumes nothing.
use Rattle.std.specs.Prelude.{ℕ, ◌≡◌, List}
use Rattle.machine.specs.Session.{Session, result_of}
use Rattle.machine.specs.declared.Record.{Record}

-- Same: memories of the same lengths
pub record Reach {A M S : Type 0} (σ : Session A M S) (Same : M → M → Type 0) (fresh : M → S) (fresh_record : Record) : Type 0 where
  -- a session starts at the record that is handed out for it
  pub starts_fresh : (mem : M) → σ.write (fresh mem) ≡ fresh_record
  -- where the lengths are not refused, that record is accepted
  pub fresh_accepted : (mem : M) (input : List A) (reply : List ℕ) → σ.refusal mem ≡ 0 → (result_of σ fresh_record mem input reply).report.number ≡ 0
  -- the record that an accepted call hands out is accepted, whatever memories of these lengths then hold
  pub stays_accepted : (r : Record) (mem : M) (input : List A) (reply : List ℕ) → (result_of σ r mem input reply).report.number ≡ 0 →
      (mem' : M) (input' : List A) (reply' : List ℕ) → Same mem' mem →
      (result_of σ (result_of σ r mem input reply).report.session mem' input' reply').report.number ≡ 0
