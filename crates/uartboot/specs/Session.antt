-- The session: a call on a record, input, reply and the memories. It is refused with 1, 2, 3 or 4 (rules, 2.1).
-- Assumes nothing.
use Rattle.std.specs.Prelude as std
use Rattle.std.specs.Prelude.{ℕ, cond, not, List, length, Option, Some, None}
use Rattle.wire.specs.Length.{is_work_length, bad_work, is_ram_length, bad_ram, is_flash_length, bad_flash}
use Rattle.machine.specs.Session.{Read, sound, unsound, Session, GivenBack}
use Rattle.machine.specs.Told.{refusal_number, told}
use Rattle.machine.specs.declared.Record.{Record}
use Rattle.machine.specs.declared.Accepted.{Accepted}
use Rattle.machine.specs.declared.refusal.Refusal.{Refusal}
use Rattle.memory.specs.Memories.{Memories}
use Rattle.uartboot_flow.specs.State.{State, state}
use Rattle.uartboot_flow.specs.Device.{device}
use Rattle.uartboot_record.specs.Record.{written, decoded_of}
use Rattle.uartboot_flow.specs.declared.step.Step.{Step}

-- lengths are tested in this order
unfoldable pub refusal_of : (ram flash work : ℕ) → ℕ
refusal_of ram flash work =
    cond (not (is_work_length work)) bad_work
    (cond (not (is_ram_length ram)) bad_ram
    (cond (not (is_flash_length flash)) bad_flash
    0))

abbrev pub read_of : Option Step → (reason : ℕ) → Memories → Read State
read_of (Some step) reason m = sound (state step reason m)
read_of None reason m = unsound

abbrev pub uartboot : Session ℕ Memories State
uartboot =
    record {
      machine = device;
      refusal = λ m. refusal_of (length m.ram) (length m.flash) (length m.work);
      read = λ r m. read_of (decoded_of (length m.ram) (length m.work) r) r.reason m;
      write = λ s. written s.step s.reason;
      memories = λ s. s.mem;
    }

-- what a call on a record gives back, with the reply and the memories after it
abbrev pub given_back : Record → std.Result Accepted Refusal → (reply : List ℕ) → Memories → GivenBack Memories
given_back session outcome reply m = record { report = told refusal_number session outcome; reply = reply; memories = m }
