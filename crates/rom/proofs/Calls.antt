-- A call's result, case by case.
-- Assumes nothing.
use Rattle.std.specs.Prelude.{Option, Some, None, Ok, Err}
use Prim.Native.Nat.{ℕ}
use native.Mathlib.Omega.{arith}
use mathlib.Core.Path.{◌≡◌, refl, ap}
use mathlib.Core.Bool.{true, false}
use mathlib.Core.List.{List}
use lib.ListN.{length}
use Rattle.wire.specs.Length.{is_ram_length, bad_ram}
use Rattle.machine.specs.Stop.{standing_number, accepted_at, ActedTo}
use Rattle.machine.specs.Told.{refusal_number, told}
use Rattle.machine.specs.declared.stop.Stop.{Stop}
use Rattle.machine.specs.declared.refusal.Refusal.TheVariants.{RamLength}
use Rattle.machine.specs.declared.refusal.Refusal.TheVariants as refusal
use Rattle.machine.specs.Session.{bad_record, refused_report, result_of}
use Rattle.machine.specs.declared.Record.{Record}
use Rattle.machine.proofs.Results.{refused-length, refused-record, accepted-call}
use Rattle.rom_flow.specs.declared.kind.Kind.{Kind}
use Rattle.rom_flow.specs.declared.step.Step.{Step}
use Rattle.rom_flow.specs.State.{state}
use Rattle.rom_flow.specs.Receiver.{receiver}
use Rattle.rom_record.specs.Record.{written, decoded_of}
use Rattle.rom.specs.Session.{read_of, rom, given_back}

module _ (session : Record) (input reply ram : List ℕ) where
  pub bad-length : is_ram_length (length ram) ≡ false → given_back session (Err RamLength) reply ram ≡ result_of rom session ram input reply
  bad-length e = refused-length rom session ram input reply (refused_report bad_ram session) bad_ram (rw e refl) (λ z. omega arith) refl

  module _ (fits : is_ram_length (length ram) ≡ true) where
    pub bad-record : decoded_of (length ram) session ≡ None → given_back session (Err refusal.Record) reply ram ≡ result_of rom session ram input reply
    bad-record e =
        refused-record rom session ram input reply (refused_report bad_record session) (rw fits refl)
        (ap (λ (d : Option (Kind × Step)). read_of d session.reason ram) e) refl

    pub good : (kind : Kind) (s : Step) → decoded_of (length ram) session ≡ Some (kind, s) → (end : Stop Step) (reply' ram' : List ℕ) →
        ActedTo receiver (state kind s session.reason ram) input reply end (state kind end.at.step end.at.reason ram') reply' →
        given_back session (Ok (accepted_at end (written kind end.at.step end.at.reason))) reply' ram' ≡ result_of rom session ram input reply
    good kind s e end reply' ram' a =
        accepted-call rom session ram input reply (told refusal_number session (Ok (accepted_at end (written kind end.at.step end.at.reason)))) (rw fits refl)
        (state kind s session.reason ram) (ap (λ (d : Option (Kind × Step)). read_of d session.reason ram) e)
        end.at.taken end.at.sent (standing_number end.standing) (state kind end.at.step end.at.reason ram') reply' a refl
