-- Every record that calls can reach is accepted.
-- Assumes nothing.
use Rattle.std.specs.Prelude.{Option, Some, None}
use native.Mathlib.Omega.{arith}
use mathlib.Core.Path.{◌≡◌, refl, sym, subst, ◌∙◌}
use Rattle.machine.specs.Lawful.{Any}
use Rattle.machine.specs.Reach.{Reach}
use Rattle.machine.specs.Session.{sound}
use Rattle.machine.specs.declared.Record.{Record}
use Rattle.machine.proofs.Reaches.{Readable, reach}
use Rattle.machine.proofs.Refusals.{sound-same, never-sound}
use Rattle.host_command.specs.Exchange.{Lent, SameLent, exchange}
use Rattle.host_command.specs.Refusal.{refusal_of}
use Rattle.host_flow.specs.State.{State, state}
use Rattle.host_flow.specs.Fresh.{fresh_record, fresh}
use Rattle.host_flow.proofs.Sounds.{Held, same-lent}
use Rattle.host_flow.proofs.Laws.{held}
use Rattle.host_record.specs.Record.{written, decoded_of}
use Rattle.host_record.proofs.Records.{decoded-sound, reads_back}
use Rattle.host.specs.Session.{host_session}
use Rattle.host_flow.specs.declared.step.Step.{Step}

starts : (c : Lent) → host_session.write (fresh c) ≡ fresh_record
unfolding written
starts c = refl

-- a record that is read stands for a sound state with what is lent
read_held : (r : Record) (c : Lent) (s : State) → refusal_of c ≡ 0 → host_session.read r c ≡ sound s → Held c s
read_held r c s ok e = go (decoded_of (exchange c) r) refl
  where
    go : (d : Option Step) → decoded_of (exchange c) r ≡ d → Held c s
    go (Some step) q =
        let is : state step r.reason c ≡ s = sound-same (state step r.reason c) s (rw q at e) in
        subst (Held c) is (record { ready = record { accepted = ok; step_sound = decoded-sound (exchange c) r step q }; same = same-lent c })
    go None q = absurd (never-sound s (rw q at e))

-- with the same command and an answer buffer of the same length nothing is refused that was accepted
still-accepted : (a b : Lent) → SameLent a b → refusal_of b ≡ 0 → refusal_of a ≡ 0
unfolding refusal_of
still-accepted a b same ok = rw (same.same_opcode, same.same_payload, same.same_length) ok

-- a state's record is read with the same command
held-read : (c c' : Lent) (s : State) → Held c s → SameLent c' c → Readable host_session (host_session.write s) c'
unfolding written
held-read c c' s h same =
    let l = s.lent in
    let here : SameLent c' l = record {
      same_opcode = same.same_opcode ∙ sym h.same.same_opcode;
      same_payload = same.same_payload ∙ sym h.same.same_payload;
      same_length = same.same_length ∙ sym h.same.same_length;
    } in
    let back = reads_back (exchange l) s.step s.reason h.ready.step_sound in
    record {
      fits = still-accepted c' l here h.ready.accepted;
      state = state s.step s.reason c';
      reads = rw (here.same_opcode, here.same_payload, back) refl;
    }

pub records-reached : Reach host_session SameLent fresh fresh_record
records-reached =
    reach host_session SameLent fresh fresh_record Held (record {
      lawful = λ c. held c Any;
      starts = starts;
      same = λ c. record { same_opcode = refl; same_payload = refl; same_length = refl };
      fresh-held = λ c e. record { ready = record { accepted = e; step_sound = omega arith }; same = same-lent c };
      read_held = read_held;
      held-read = held-read;
    })
