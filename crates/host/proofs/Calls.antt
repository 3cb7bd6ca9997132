-- A call's result, case by case.
-- Assumes nothing.
use Rattle.std.specs.Prelude.{Option, Some, None, Result, Ok, Err}
use Prim.Native.Nat.{ℕ}
use mathlib.Core.Path.{◌≡◌, refl, sym, ap, subst, ◌∙◌}
use mathlib.Core.Bool.{Bool, true, false, cond}
use mathlib.Core.List.{List}
use lib.Dec.{eqb}
use native.Mathlib.Omega.{arith}
use borrow.Author.Tests.{eqb-true, eqb-false}
use Rattle.machine.specs.Stop.{standing_number, accepted_at, ActedTo}
use Rattle.machine.specs.Told.{told}
use Rattle.machine.specs.declared.stop.Stop.{Stop}
use Rattle.host.specs.declared.refusal.CallRefusal.TheVariants.{Command}
use Rattle.host.specs.declared.refusal.CallRefusal.TheVariants as refusal
use Rattle.host.specs.Refusal as whole
use Rattle.machine.specs.Session.{bad_record, refused_report, result_of}
use Rattle.machine.specs.declared.Record.{Record}
use Rattle.machine.proofs.Results.{refused-length, refused-record, accepted-call}
use Rattle.host_command.specs.declared.Exchange.{Exchange}
use Rattle.host_command.specs.declared.Refusal.{Refusal}
use Rattle.host_command.specs.Exchange.{Lent, lent, exchange_of, exchange}
use Rattle.host_command.specs.Refusal.{refusal_of, refusal_number, refusal_with, judged_of}
use Rattle.host_command.proofs.Commands.{has-number}
use Rattle.host_flow.specs.declared.step.Step.{Step}
use Rattle.host_flow.specs.State.{state}
use Rattle.host_flow.specs.Host.{host}
use Rattle.host_flow.specs.Sound.{Ready}
use Rattle.host_record.specs.Record.{written, decoded_of}
use Rattle.host_record.proofs.Records.{decoded-sound}
use Rattle.host.specs.Session.{read_of, host_session, given_back}

-- a command that is judged is refused with its number, or accepted with what is known from it
pub refused-with : (c : Lent) (f : Refusal) → judged_of c ≡ Err f → (refusal_number f ≡ refusal_of c) × (refusal_of c ≡ 0 → ⊥)
refused-with c f e = go (eqb (refusal_of c) 0) refl e
  where
    go : (t : Bool) → eqb (refusal_of c) 0 ≡ t → ◌≡◌ {A = Result Exchange Refusal} (cond t (Ok (exchange c)) (Err (refusal_with (refusal_of c)))) (Err f) →
        (refusal_number f ≡ refusal_of c) × (refusal_of c ≡ 0 → ⊥)
    go true z q = absurd (let w : ◌≡◌ {A = ℕ} 0 1 = cc in omega arith)
    go false z q =
        let some = eqb-false (refusal_of c) 0 z in
        let same : f ≡ refusal_with (refusal_of c) = cc in
        (ap refusal_number same ∙ has-number c some, some)

pub accepted-with : (c : Lent) (x : Exchange) → judged_of c ≡ Ok x → (exchange c ≡ x) × (refusal_of c ≡ 0)
accepted-with c x e = go (eqb (refusal_of c) 0) refl e
  where
    go : (t : Bool) → eqb (refusal_of c) 0 ≡ t → ◌≡◌ {A = Result Exchange Refusal} (cond t (Ok (exchange c)) (Err (refusal_with (refusal_of c)))) (Ok x) →
        (exchange c ≡ x) × (refusal_of c ≡ 0)
    go true z q = (cc, eqb-true (refusal_of c) 0 z)
    go false z q = absurd (let w : ◌≡◌ {A = ℕ} 0 1 = cc in omega arith)

-- the opcode is part of what is known
pub same_opcode : (c : Lent) (x : Exchange) → exchange c ≡ x → c.opcode ≡ x.opcode
unfolding exchange_of
same_opcode c x e = ap (λ (y : Exchange). y.opcode) e

module _ (session : Record) (input output : List ℕ) (c : Lent) where
  pub bad-command : (f : Refusal) → judged_of c ≡ Err f → given_back session (Err (Command f)) output c ≡ result_of host_session session c input output
  bad-command f e =
      let why = refused-with c f e in
      refused-length host_session session c input output (refused_report (refusal_number f) session) (refusal_number f) why.0
      (λ z. why.1 (sym why.0 ∙ z)) refl

  module _ (x : Exchange) (e : judged_of c ≡ Ok x) where
    abbrev known : exchange c ≡ x
    known = (accepted-with c x e).0

    abbrev fits : refusal_of c ≡ 0
    fits = (accepted-with c x e).1

    read_as : (d : Option Step) → decoded_of x session ≡ d → host_session.read session c ≡ read_of d session.reason c
    read_as d f = rw (known, f) refl

    pub bad-record : decoded_of x session ≡ None → given_back session (Err refusal.Record) output c ≡ result_of host_session session c input output
    bad-record f = refused-record host_session session c input output (refused_report bad_record session) fits (read_as None f) refl

    pub good : (s : Step) → decoded_of x session ≡ Some s → (end : Stop Step) (output' : List ℕ) (c' : Lent) →
        ActedTo host (state s session.reason c) input output end (state end.at.step end.at.reason c') output' →
        given_back session (Ok (accepted_at end (written end.at.step end.at.reason))) output' c' ≡ result_of host_session session c input output
    good s f end output' c' a =
        accepted-call host_session session c input output (told whole.refusal_number session (Ok (accepted_at end (written end.at.step end.at.reason)))) fits
        (state s session.reason c) (read_as (Some s) f)
        end.at.taken end.at.sent (standing_number end.standing) (state end.at.step end.at.reason c') output' a refl

-- the loop goes by what is known from the command, its opcode among that
module _ (opcode : ℕ) (payload answer : List ℕ) (x : Exchange) (e : judged_of (lent opcode payload answer) ≡ Ok x) where
  abbrev is-opcode : opcode ≡ x.opcode
  is-opcode = same_opcode (lent opcode payload answer) x (accepted-with (lent opcode payload answer) x e).0

  pub ready : (session : Record) (s : Step) → decoded_of x session ≡ Some s → (exchange_of x.opcode payload ≡ x) × Ready s (lent x.opcode payload answer)
  ready session s f =
      let a = accepted-with (lent opcode payload answer) x e in
      subst (λ (o : ℕ). (exchange_of o payload ≡ x) × Ready s (lent o payload answer)) is-opcode (a.0, record { accepted = a.1; step_sound = rw a.0 (decoded-sound x session s f) })

  pub went : (session : Record) (input output : List ℕ) (s : Step) → decoded_of x session ≡ Some s → (end : Stop Step) (output' answer' : List ℕ) →
      ActedTo host (state s session.reason (lent x.opcode payload answer)) input output end (state end.at.step end.at.reason (lent x.opcode payload answer')) output' →
      given_back session (Ok (accepted_at end (written end.at.step end.at.reason))) output' (lent opcode payload answer')
      ≡ result_of host_session session (lent opcode payload answer) input output
  went session input output s f end output' answer' a =
      good session input output (lent opcode payload answer) x e s f end output' (lent opcode payload answer') (rw is-opcode a)
