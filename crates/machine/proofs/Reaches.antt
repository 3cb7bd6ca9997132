-- Every record that calls can reach is accepted, if a record is read by the lengths of the memories alone and every action keeps these.
-- Assumes nothing.
use Prim.Native.Nat.{ℕ}
use mathlib.Core.Path.{◌≡◌, refl}
use mathlib.Core.List.{List}
use lib.ListN.{length}
use Rattle.machine.specs.Call.{call}
use Rattle.machine.specs.Lawful.{Any, Lawful}
use Rattle.machine.specs.Session.{Session, sound, accepted, result_of}
use Rattle.machine.specs.Reach.{Reach}
use Rattle.machine.specs.declared.Record.{Record}
use Rattle.machine.proofs.Paths.{call-keeps, all_any}
use Rattle.machine.proofs.Refusals.{accepts}

-- with these memories a record stands for a state
pub record Readable {A M S : Type 0} (σ : Session A M S) (r : Record) (mem : M) : Type 0 where
  pub fits : σ.refusal mem ≡ 0
  pub state : S
  pub reads : σ.read r mem ≡ sound state

-- Held mem s: a sound state whose memories have the lengths of mem
pub record Lasting {A M S : Type 0} (σ : Session A M S) (Same : M → M → Type 0) (fresh : M → S) (fresh_record : Record) (Held : M → S → Type 0) : Type 0 where
  pub lawful : (mem : M) → Lawful σ.machine Any (Held mem)
  pub starts : (mem : M) → σ.write (fresh mem) ≡ fresh_record
  pub same : (mem : M) → Same mem mem
  pub fresh-held : (mem : M) → σ.refusal mem ≡ 0 → Held mem (fresh mem)
  pub read_held : (r : Record) (mem : M) (s : S) → σ.refusal mem ≡ 0 → σ.read r mem ≡ sound s → Held mem s
  pub held-read : (mem mem' : M) (s : S) → Held mem s → Same mem' mem → Readable σ (σ.write s) mem'

module _ {A M S : Type 0} (σ : Session A M S) where
  readable-accepted : (r : Record) (mem : M) (input : List A) (reply : List ℕ) → Readable σ r mem → (result_of σ r mem input reply).report.number ≡ 0
  unfolding result_of accepted
  readable-accepted r mem input reply h = simp (h.fits, h.reads) refl

  -- the record that an accepted call hands out
  handed_out : (s : S) (input : List A) (reply : List ℕ) → (accepted σ s input reply).report.session ≡ σ.write (call σ.machine s input (length reply)).final
  unfolding accepted
  handed_out s input reply = refl

  pub reach : (Same : M → M → Type 0) (fresh : M → S) (fresh_record : Record) (Held : M → S → Type 0) → Lasting σ Same fresh fresh_record Held →
      Reach σ Same fresh fresh_record
  reach Same fresh fresh_record Held l =
      record {
        starts_fresh = l.starts;
        fresh_accepted = λ mem input reply e.
            readable-accepted fresh_record mem input reply (rw (l.starts mem) at (l.held-read mem mem (fresh mem) (l.fresh-held mem e) (l.same mem)));
        stays_accepted = λ r mem input reply e mem' input' reply' same.
            let a = accepts σ r mem input reply e in
            let s = a.state in
            let start : Held mem s = l.read_held r mem s a.fits a.read_is in
            let end = (call σ.machine s input (length reply)).final in
            let h : Held mem end = call-keeps σ.machine (l.lawful mem) s input (l.lawful mem).stays_sound (all_any input) start (length reply) in
            rw (a.result-is, handed_out s input reply) (readable-accepted (σ.write end) mem' input' reply' (l.held-read mem mem' end h same));
      }
