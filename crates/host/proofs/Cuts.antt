-- What the host keeps to, so that its lists of calls follow its definition, from the theorem over any session.
-- Assumes nothing.
use native.Mathlib.Omega.{arith}
use mathlib.Core.Path.{◌≡◌, refl}
use Rattle.wire.specs.Bytes.{Byte}
use Rattle.machine.specs.SessionLaws.{OneByOne, Faithful}
use Rattle.machine.proofs.Doing.{does-one, does-speaks}
use Rattle.machine.proofs.Sessions.{takes_all, definition_ends, session-claim, made-claim}
use Rattle.host_command.specs.Exchange.{Lent, exchange}
use Rattle.host_command.specs.Refusal.{refusal_of}
use Rattle.host_flow.specs.Flow.{does}
use Rattle.host_flow.specs.Due.{due}
use Rattle.host_flow.specs.Host.{host}
use Rattle.host_flow.specs.Fresh.{fresh}
use Rattle.host_flow.specs.Sound.{Sound}
use Rattle.host_flow.proofs.Laws.{lawful}
use Rattle.host_flow.proofs.Answers.{Watched, watched}
use Rattle.host_record.specs.Record.{written}
use Rattle.host_record.proofs.Records.{reads_back}
use Rattle.host.specs.Session.{host_session}
use Rattle.host.specs.Cuts.{HostCuts}
use Rattle.host.proofs.Reached.{records-reached}

pub one_by_one : OneByOne host
one_by_one = does-one does due

pub fresh_sound : (c : Lent) → refusal_of c ≡ 0 → Sound (fresh c)
fresh_sound c e = record { accepted = e; step_sound = omega arith }

pub faithful : Faithful host_session Byte fresh Sound Watched
unfolding written
faithful =
    record {
      lawful = lawful Byte;
      speaks = does-speaks does due;
      fresh_sound = fresh_sound;
      fresh_memories = λ c. refl;
      fits = λ s h. h.accepted;
      reads_back = λ s h. rw (reads_back (exchange s.lent) s.step s.reason h.step_sound) refl;
      at_first = λ c e. record { ready = fresh_sound c e; came = refl; placed = refl };
      kept = watched Byte;
    }

pub host-cuts : HostCuts
host-cuts =
    record {
      reach = records-reached;
      definition_ends = definition_ends host_session faithful (λ events s w. w.came) one_by_one;
      defined = session-claim host_session faithful (λ events s w. w.came);
      made = made-claim host_session faithful (λ events s w. w.came);
      takes_all = takes_all host_session (lawful Byte) one_by_one;
    }
