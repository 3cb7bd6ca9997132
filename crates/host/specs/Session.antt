-- The host's session: a call on a record, the device's bytes, room for the host's own, and what is lent. It is refused with 71, 72 or 4
-- (rules, 15.2 and 15.6).
-- Assumes nothing.
use Rattle.std.specs.Prelude as std
use Rattle.std.specs.Prelude.{ℕ, List, Option, Some, None}
use Rattle.machine.specs.Session.{Read, sound, unsound, Session, GivenBack}
use Rattle.machine.specs.Told.{told}
use Rattle.machine.specs.declared.Record.{Record}
use Rattle.machine.specs.declared.Accepted.{Accepted}
use Rattle.host.specs.declared.refusal.CallRefusal.{CallRefusal}
use Rattle.host.specs.Refusal.{refusal_number}
use Rattle.host_command.specs.Exchange.{Lent, exchange}
use Rattle.host_command.specs.Refusal.{refusal_of}
use Rattle.host_flow.specs.State.{State, state}
use Rattle.host_flow.specs.Host.{host}
use Rattle.host_record.specs.Record.{written, decoded_of}
use Rattle.host_flow.specs.declared.step.Step.{Step}

abbrev pub read_of : Option Step → (reason : ℕ) → Lent → Read State
read_of (Some step) reason c = sound (state step reason c)
read_of None reason c = unsound

abbrev pub host_session : Session ℕ Lent State
host_session =
    record {
      machine = host;
      refusal = refusal_of;
      read = λ r c. read_of (decoded_of (exchange c) r) r.reason c;
      write = λ s. written s.step s.reason;
      memories = λ s. s.lent;
    }

-- what a call on a record gives back, with the output and what is lent after it
abbrev pub given_back : Record → std.Result Accepted CallRefusal → (output : List ℕ) → Lent → GivenBack Lent
given_back session outcome output c = record { report = told refusal_number session outcome; reply = output; memories = c }
