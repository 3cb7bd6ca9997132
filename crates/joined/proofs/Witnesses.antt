-- The commands of the witnesses, computed.
-- Assumes nothing.
use Prim.Native.Nat.{ℕ, ◌≤◌}
use native.Mathlib.Omega.{arith}
use mathlib.Core.Path.{◌≡◌, refl}
use mathlib.Core.Bool.{true}
use mathlib.Core.List.{List}
use lib.ListN.{length}
use Rattle.wire.specs.Length.{is_between, is_flash_length}
use Rattle.wire.specs.Range.{lies_in, place_in}
use Rattle.numbers.specs.Number.{number_at}
use Rattle.opcodes.specs.declared.Opcode.{Opcode}
use Rattle.opcodes.specs.declared.Opcode.TheVariants.{Write, Read, Copy, Erase, Run, ReadQspi, Version, ChipErase, DirectWrite}
use Rattle.opcodes.specs.Opcode.{opcode_of, has_length}
use Rattle.command.specs.Check.{judged}
use Rattle.command_execution.specs.declared.Ending.TheVariants.{Failed}
use Rattle.command_execution.specs.Execution.{verify_differs, executed}
use Rattle.host_command.specs.Exchange.{exchange_of}
use Rattle.host_command.specs.Refusal.{refusal_of}
use Rattle.joined.specs.Accepted.{against, effect, Fits, Accepted}
use Rattle.joined.specs.Witnesses.{sample, SomeAccepted, SomeRefused}

fitting : (flash : ℕ) → Fits (sample flash)
unfolding is_between is_flash_length
fitting flash = record { ram_length = refl; flash_length = refl; work_length = refl }

accepts : (opcode : Opcode) (payload : List ℕ) → has_length opcode (length payload) ≡ true → length payload ≤ 64 → against opcode payload (sample 0xFF) ≡ 0 →
    ((effect opcode payload (sample 0xFF)).ending ≡ Failed verify_differs → ⊥) → Accepted opcode payload (sample 0xFF)
accepts opcode payload has small passes verified =
    record { good = record { fitting = fitting 0xFF; has_length = has; in_work = small; passes = passes }; verified = verified }

pub some-accepted : SomeAccepted
unfolding exchange_of opcode_of refusal_of executed judged lies_in place_in number_at
some-accepted =
    record {
      write_accepted = record { not_refused = refl; accepted = accepts Write _ refl (omega arith) refl (λ e. let z : ◌≡◌ {A = ℕ} 0 1 = cc in omega arith) };
      read_accepted = record { not_refused = refl; accepted = accepts Read _ refl (omega arith) refl (λ e. let z : ◌≡◌ {A = ℕ} 0 1 = cc in omega arith) };
      copy_accepted = record { not_refused = refl; accepted = accepts Copy _ refl (omega arith) refl (λ e. let z : ◌≡◌ {A = ℕ} 0 1 = cc in omega arith) };
      erase_accepted = record { not_refused = refl; accepted = accepts Erase _ refl (omega arith) refl (λ e. let z : ◌≡◌ {A = ℕ} 0 1 = cc in omega arith) };
      run_accepted = record { not_refused = refl; accepted = accepts Run _ refl (omega arith) refl (λ e. let z : ◌≡◌ {A = ℕ} 0 1 = cc in omega arith) };
      read_qspi_accepted = record { not_refused = refl; accepted = accepts ReadQspi _ refl (omega arith) refl (λ e. let z : ◌≡◌ {A = ℕ} 0 1 = cc in omega arith) };
      version_accepted = record { not_refused = refl; accepted = accepts Version _ refl (omega arith) refl (λ e. let z : ◌≡◌ {A = ℕ} 0 1 = cc in omega arith) };
      chip_erase_accepted = record { not_refused = refl; accepted = accepts ChipErase _ refl (omega arith) refl (λ e. let z : ◌≡◌ {A = ℕ} 0 1 = cc in omega arith) };
      direct_write_accepted = record { not_refused = refl; accepted = accepts DirectWrite _ refl (omega arith) refl (λ e. let z : ◌≡◌ {A = ℕ} 0 1 = cc in omega arith) };
    }

pub some-refused : SomeRefused
unfolding exchange_of opcode_of refusal_of executed judged lies_in place_in number_at
some-refused =
    record {
      fitting = fitting 0xFF;
      long_not_refused = refl;
      long = omega arith;
      empty_not_refused = refl;
      empty_in_work = omega arith;
      empty_fails = λ e. omega arith;
      direct_not_refused = refl;
      direct_passes = record { fitting = fitting 0x0F; has_length = refl; in_work = omega arith; passes = refl };
      direct_differs = refl;
    }
