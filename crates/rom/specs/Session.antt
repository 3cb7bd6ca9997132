-- The receiver's session: a call on a record, input, reply and RAM. It is refused with 2 or 4 (rules, 2.1).
-- Assumes nothing.
use Rattle.std.specs.Prelude as std
use Rattle.std.specs.Prelude.{ℕ, cond, List, length, Option, Some, None}
use Rattle.wire.specs.Length.{is_ram_length, bad_ram}
use Rattle.machine.specs.Session.{Read, sound, unsound, Session, GivenBack}
use Rattle.machine.specs.Told.{refusal_number, told}
use Rattle.machine.specs.declared.Record.{Record}
use Rattle.machine.specs.declared.Accepted.{Accepted}
use Rattle.machine.specs.declared.refusal.Refusal.{Refusal}
use Rattle.rom_flow.specs.State.{State, state}
use Rattle.rom_flow.specs.Receiver.{receiver}
use Rattle.rom_record.specs.Record.{written, decoded_of}
use Rattle.rom_flow.specs.declared.step.Step.{Step}
use Rattle.rom_flow.specs.declared.kind.Kind.{Kind}

abbrev pub read_of : Option (Kind × Step) → (reason : ℕ) (ram : List ℕ) → Read State
read_of (Some (kind, step)) reason ram = sound (state kind step reason ram)
read_of None reason ram = unsound

abbrev pub rom : Session ℕ (List ℕ) State
rom =
    record {
      machine = receiver;
      refusal = λ ram. cond (is_ram_length (length ram)) 0 bad_ram;
      read = λ r ram. read_of (decoded_of (length ram) r) r.reason ram;
      write = λ s. written s.kind s.step s.reason;
      memories = λ s. s.ram;
    }

-- what a call on a record gives back, with the reply and the RAM after it
abbrev pub given_back : Record → std.Result Accepted Refusal → (reply ram : List ℕ) → GivenBack (List ℕ)
given_back session outcome reply ram = record { report = told refusal_number session outcome; reply = reply; memories = ram }
