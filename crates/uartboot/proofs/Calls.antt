-- A call's result, case by case.
-- Assumes nothing.
use Rattle.std.specs.Prelude.{Option, Some, None, Ok, Err}
use Prim.Native.Nat.{ℕ}
use native.Mathlib.Omega.{arith}
use mathlib.Core.Path.{◌≡◌, refl, ap}
use mathlib.Core.Bool.{Bool, true, false, cond, not}
use mathlib.Core.List.{List}
use lib.ListN.{length}
use Rattle.wire.specs.Length.{is_work_length, bad_work, is_ram_length, bad_ram, is_flash_length, bad_flash}
use Rattle.machine.specs.Stop.{standing_number, accepted_at, ActedTo}
use Rattle.machine.specs.Told.{refusal_number, told}
use Rattle.machine.specs.declared.stop.Stop.{Stop}
use Rattle.machine.specs.declared.refusal.Refusal.{Refusal}
use Rattle.machine.specs.declared.refusal.Refusal.TheVariants as refusal
use Rattle.machine.proofs.Refusals.{some-number}
use Rattle.machine.specs.Session.{bad_record, refused_report, result_of}
use Rattle.machine.specs.declared.Record.{Record}
use Rattle.machine.proofs.Results.{refused-length, refused-record, accepted-call}
use Rattle.memory.specs.Memories.{Memories, Fitting}
use Rattle.uartboot_flow.specs.declared.step.Step.{Step}
use Rattle.uartboot_flow.specs.State.{state}
use Rattle.uartboot_flow.specs.Device.{device}
use Rattle.uartboot_record.specs.Record.{written, decoded_of}
use Rattle.uartboot.specs.Session.{refusal_of, read_of, uartboot, given_back}

-- lengths that are not refused
pub fitting : (ram flash work : ℕ) → refusal_of ram flash work ≡ 0 → Fitting ram flash work
unfolding refusal_of
fitting ram flash work e = go (is_work_length work) (is_ram_length ram) (is_flash_length flash) refl refl refl e
  where
    go : (w r f : Bool) → is_work_length work ≡ w → is_ram_length ram ≡ r → is_flash_length flash ≡ f →
        cond (not w) bad_work (cond (not r) bad_ram (cond (not f) bad_flash 0)) ≡ 0 → Fitting ram flash work
    go true true true a b c q = record { ram_length = b; flash_length = c; work_length = a }
    go true true false a b c q = absurd (let z : ⊥ = omega arith in z)
    go true false f a b c q = absurd (let z : ⊥ = omega arith in z)
    go false r f a b c q = absurd (let z : ⊥ = omega arith in z)

pub fitting-accepted : (ram flash work : ℕ) → Fitting ram flash work → refusal_of ram flash work ≡ 0
unfolding refusal_of
fitting-accepted ram flash work h = simp (h.work_length, h.ram_length, h.flash_length)

module _ (session : Record) (input reply : List ℕ) (m : Memories) where
  pub bad-length : (why : Refusal) → refusal_number why ≡ refusal_of (length m.ram) (length m.flash) (length m.work) →
      given_back session (Err why) reply m ≡ result_of uartboot session m input reply
  bad-length why e = refused-length uartboot session m input reply (refused_report (refusal_number why) session) (refusal_number why) e (some-number why) refl

  module _ (fits : refusal_of (length m.ram) (length m.flash) (length m.work) ≡ 0) where
    pub bad-record : decoded_of (length m.ram) (length m.work) session ≡ None → given_back session (Err refusal.Record) reply m ≡ result_of uartboot session m input reply
    bad-record e =
        refused-record uartboot session m input reply (refused_report bad_record session) fits (ap (λ (d : Option Step). read_of d session.reason m) e) refl

    pub good : (s : Step) → decoded_of (length m.ram) (length m.work) session ≡ Some s → (end : Stop Step) (reply' : List ℕ) (m' : Memories) →
        ActedTo device (state s session.reason m) input reply end (state end.at.step end.at.reason m') reply' →
        given_back session (Ok (accepted_at end (written end.at.step end.at.reason))) reply' m' ≡ result_of uartboot session m input reply
    good s e end reply' m' a =
        accepted-call uartboot session m input reply (told refusal_number session (Ok (accepted_at end (written end.at.step end.at.reason)))) fits
        (state s session.reason m) (ap (λ (d : Option Step). read_of d session.reason m) e)
        end.at.taken end.at.sent (standing_number end.standing) (state end.at.step end.at.reason m') reply' a refl
