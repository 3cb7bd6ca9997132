-- The host's definition and the device's close on each other, for every command that passes its checks.
-- Assumes nothing.
use Rattle.std.specs.Prelude.{Option, Some}
use Prim.Native.Nat.{ℕ, ◌+◌, ◌≤◌, ◌<◌}
use native.Mathlib.Omega.{arith}
use mathlib.Core.Path.{◌≡◌, refl, sym, ap, subst, ◌∙◌}
use mathlib.Core.Bool.{true}
use mathlib.Core.List.{List, [], ◌∷◌, ◌++◌, append_assoc}
use lib.Dec.{leb}
use lib.ListN.{length, take, length-append}
use lib.Seq.{length-take-le}
use borrow.Author.Tests.{leb-true}
use Rattle.wire.specs.Line.{ack, nak}
use Rattle.wire.proofs.Tests.{both_true}
use Rattle.numbers.specs.Number.{bytes_of}
use Rattle.memory.specs.Store.{laid}
use Rattle.memory.specs.Memories.{Memories}
use Rattle.machine.specs.Outcome.{halt, join}
use Rattle.machine.specs.Uncut.{uncut}
use Rattle.machine.specs.Cuts.{Stopped, waits}
use Rattle.machine.proofs.Actions.{uncut-act}
use Rattle.opcodes.specs.declared.Opcode.{Opcode}
use Rattle.opcodes.specs.Opcode.{opcode_number, opcode_of, has_length}
use Rattle.opcodes.proofs.Opcodes.{opcode-back}
use Rattle.command_execution.specs.declared.Ending.{Ending}
use Rattle.command_execution.specs.declared.Ending.TheVariants as ending
use Rattle.command_execution.specs.Execution.{Executed}
use Rattle.uartboot_flow.specs.declared.step.Step.TheVariants.{Header, Answer}
use Rattle.uartboot_flow.specs.declared.step.HeaderStep.TheVariants.{TakeSoh}
use Rattle.uartboot_flow.specs.declared.step.AnswerStep.TheVariants as a
use Rattle.uartboot_flow.specs.State as device-state
use Rattle.uartboot_flow.specs.Flow as device-flow
use Rattle.uartboot_flow.specs.Device.{device}
use Rattle.joining.specs.Goes.{Goes, rests, takes}
use Rattle.joining.specs.Talk.{Talk, over, round, hears}
use Rattle.joining.proofs.Goings.{via, goes_on}
use Rattle.joining.proofs.Tallies.{Tallied}
use Rattle.host_command.specs.declared.Follows.{Follows}
use Rattle.host_command.specs.declared.Follows.TheVariants.{Answers, Runs, Greets}
use Rattle.host_command.specs.Exchange.{Lent, lent, follows_command, follows_lookup, exchange_of, exchange, awaited_of, awaited}
use Rattle.host_command.specs.Refusal.{longest_payload, is_command, refusal_of}
use Rattle.host_command.proofs.Commands.{fits}
use Rattle.host_flow.specs.declared.step.Step.TheVariants.{Look, Over}
use Rattle.host_flow.specs.State.{State, state}
use Rattle.host_flow.specs.Flow.{device_refused, behind}
use Rattle.host_flow.specs.Host.{host}
use Rattle.host_flow.specs.Sound.{Sound}
use Rattle.joined.specs.Traffic.{greeting_bytes, header_bytes, host_answer, device_answer, next_greeting, host_bytes, device_bytes, payload_count, answer_count}
use Rattle.joined.specs.Accepted.{brought, effect, answer_bytes, Passes}
use Rattle.joined.specs.Closed.{Closed}
use Rattle.joined.specs.Line.{device_at, Line, JoinedLine}
use Rattle.joined.proofs.HostRuns as hosts
use Rattle.joined.proofs.DeviceRuns.{counting, now}
use Rattle.joined.proofs.DeviceRuns as devices
use Rattle.joined.proofs.Effects.{Ends, answering, running, silently, Ended, ends, differs, ended, answer-is}
use Rattle.joined.proofs.Closings.{host-law, over-is, Whole, closed}

-- what is known of a command that the host doesn't refuse
pub record Known (opcode : Opcode) (payload answer : List ℕ) : Type 0 where
  pub has_length : has_length opcode (length payload) ≡ true
  pub small : length payload < 65536
  pub follows_is : (exchange (lent (opcode_number opcode) payload answer)).follows ≡ follows_command opcode payload
  pub has_room : awaited (lent (opcode_number opcode) payload answer) ≤ length answer

pub known : (opcode : Opcode) (payload answer : List ℕ) → refusal_of (lent (opcode_number opcode) payload answer) ≡ 0 → Known opcode payload answer
unfolding exchange_of
known opcode payload answer e =
    let f = fits (lent (opcode_number opcode) payload answer) e in
    let is_one : is_command (opcode_of (opcode_number opcode)) (length payload) ≡ true = f.is-command in
    let both = both_true (has_length opcode (length payload)) (leb (length payload) longest_payload) (rw (opcode-back opcode) at is_one) in
    record {
      has_length = both.0;
      small = omega (arith, leb-true (length payload) longest_payload both.1);
      follows_is = ap (λ (l : Option Opcode). follows_lookup l payload) (opcode-back opcode);
      has_room = f.has_room;
    }

-- the end of the line, from the execution on: what the device then says, what the host takes and sends, what it leaves, and where both end
pub record Tail (opcode : Opcode) (c : Lent) (f : Follows) (e : Executed) (used h left : List ℕ) (host-end : State) (device-end : device-state.State) : Type 0 where
  pub waiting : List ℕ
  pub begun : Tallied device-state.State
  pub said : List ℕ
  pub last : State
  pub speaks : Goes counting (now 1 (device-flow.ends 0 opcode e.ending e.after)) [] waiting begun
  pub talk : Talk host counting (state (behind f) 0 c) begun waiting used h said last (now 1 device-end) left
  pub quiet : Sound last → (x : List ℕ) → uncut host last (left ++ x) ≡ halt host-end
  pub silent : Stopped device device-end []

tail : (opcode : Opcode) (c : Lent) {f : Follows} {ending : Ending} {after : Memories} → awaited c ≡ awaited_of f → awaited c ≤ length c.answer → Ends c.payload f ending after →
    let bytes = take (awaited_of f) after.work in
    Tail opcode c f (record { ending = ending; after = after }) (device_answer f bytes) (host_answer f bytes) (next_greeting f)
    (state Over 0 (lent c.opcode c.payload (laid bytes c.answer))) (device_at f c.payload after)
tail opcode c awaits fits (answering {size = n} {after = after} some room small) =
    let is-n : length (take n after.work) ≡ n = length-take-le n after.work room in
    let fits-n : n ≤ length c.answer = omega arith in
    let short : n < 65536 = omega arith in
    let filled = hosts.filled c n awaits some short (take n after.work) is-n fits-n in
    record {
      waiting = bytes_of 2 n;
      begun = now 1 (device-state.state (Answer opcode n a.TakeGo) 0 after);
      said = _;
      last = state Over 0 filled;
      speaks = devices.at_length opcode after n;
      talk =
          round (hosts.at_length c n awaits some short) (devices.at-answer opcode after n some room)
          (round (hosts.at-answer c n awaits some short (take n after.work) is-n fits-n) (devices.at_last opcode after n some room)
          (hears {front = ack ∷ []} {waiting = greeting_bytes} (hosts.at_end filled) over));
      quiet = λ g x. over-is 0 filled (greeting_bytes ++ x);
      silent = waits refl;
    }
tail opcode c awaits fits (running {after}) =
    record {
      waiting = [];
      begun = now 1 (device_at Runs c.payload after);
      said = [];
      last = state Over 0 c;
      speaks = rests;
      talk = over;
      quiet = λ g x. over-is 0 c x;
      silent = Stopped.running refl;
    }
tail opcode c awaits fits (silently {after}) =
    record {
      waiting = greeting_bytes;
      begun = now 1 (device-state.state (Header TakeSoh) 0 after);
      said = [];
      last = state Look 0 c;
      speaks = devices.greets 1 0 after;
      talk = over;
      quiet = λ g x. uncut-act host host-law (state Look 0 c) g (greeting_bytes ++ x) 1 refl (omega arith) ∙ ap (join (halt (state Over 0 c))) (over-is 0 c (greeting_bytes ++ x));
      silent = waits refl;
    }

-- flash differs: 15 and the greeting
pub failing : (opcode : Opcode) (c : Lent) (why : ℕ) (e : Executed) → e.ending ≡ ending.Failed why →
    Tail opcode c Greets e (nak ∷ []) [] greeting_bytes (state Over device_refused c) (device-state.state (Header TakeSoh) why e.after)
failing opcode c why e is =
    record {
      waiting = nak ∷ greeting_bytes;
      begun = now 1 (device-state.state (Header TakeSoh) why e.after);
      said = [];
      last = state Over device_refused c;
      speaks = via counting (ap (λ (x : Ending). now 1 (device-flow.ends 0 opcode x e.after)) is) (devices.refuses 1 why e.after);
      talk = hears {front = nak ∷ []} {waiting = greeting_bytes} (takes refl refl refl rests) over;
      quiet = λ g x. over-is device_refused c (greeting_bytes ++ x);
      silent = waits refl;
    }

-- the host stands where what it knows of the command says
next-talk : (c : Lent) {f : Follows} {t t' : Tallied device-state.State} {waiting used h r left : List ℕ} {s' : State} → (exchange c).follows ≡ f →
    Talk host counting (state (behind f) 0 c) t waiting used h r s' t' left → Talk host counting (state (behind (exchange c).follows) 0 c) t waiting used h r s' t' left
next-talk c e talk = rw e talk

pub talk-as : {s s' : State} {t t' : Tallied device-state.State} {waiting used h h' r left : List ℕ} → h ≡ h' →
    Talk host counting s t waiting used h r s' t' left → Talk host counting s t waiting used h' r s' t' left
talk-as e talk = rw (← e) talk

-- the whole line
module _ (opcode : Opcode) (answer : List ℕ) (m : Memories) {used h left : List ℕ} {host-end : State} {device-end : device-state.State} where
  pub whole : (payload : List ℕ) → Known opcode payload answer → Passes opcode payload m →
      let c = lent (opcode_number opcode) payload answer in (f : Follows) → (exchange c).follows ≡ f →
      Tail opcode c f (effect opcode payload m) used h left host-end device-end → Whole c m (device_bytes payload used) (host_bytes opcode payload h) left host-end device-end 1
  whole [] k ok f is t =
      let c = lent (opcode_number opcode) [] answer in
      record {
        said = _;
        ended = t.last;
        talk =
            round (hosts.at-header c)
            (goes_on counting (devices.heads-on opcode m 0 k.small ok.has_length ok.in_work) (goes_on counting (devices.at_once opcode m) t.speaks))
            (hears {front = ack ∷ []} {waiting = t.waiting} (hosts.at_once c refl) (next-talk c is t.talk));
        quiet = t.quiet;
        silent = t.silent;
      }
  whole (b ∷ bs) k ok f is t =
      let c = lent (opcode_number opcode) (b ∷ bs) answer in
      let some : 0 < length (b ∷ bs) = omega arith in
      let talk =
      round (hosts.at-header c)
      (goes_on counting (devices.heads-on opcode m (length (b ∷ bs)) k.small ok.has_length ok.in_work) (devices.at_first opcode m (length (b ∷ bs)) some))
      (round (hosts.at-payload c some) (devices.at-payload opcode m (b ∷ bs) some ok.in_work ok.passes)
      (round (hosts.at-go c) (goes_on counting (devices.at-go opcode (brought (b ∷ bs) m) (length (b ∷ bs))) t.speaks)
      (next-talk c is t.talk))) in
      record {
        said = _;
        ended = t.last;
        talk = talk-as (ap (λ (l : List ℕ). header_bytes opcode (b ∷ bs) ++ l) (sym (append_assoc (b ∷ bs) (ack ∷ []) h))) talk;
        quiet = t.quiet;
        silent = t.silent;
      }

-- the counts of bytes
answer-count : (f : Follows) (bytes : List ℕ) → length (host_answer f bytes) ≡ answer_count f
answer-count (Answers n) bytes = refl
answer-count Runs bytes = refl
answer-count Greets bytes = refl

counted : (opcode : Opcode) (payload : List ℕ) (f : Follows) (bytes : List ℕ) → length (host_bytes opcode payload (host_answer f bytes)) ≡ payload_count payload + answer_count f
counted opcode [] f bytes = omega (arith, answer-count f bytes)
counted opcode (b ∷ bs) f bytes =
    omega (arith, answer-count f bytes, length-append ((b ∷ bs) ++ (ack ∷ [])) (host_answer f bytes), length-append (b ∷ bs) (ack ∷ []))

pub joined_line : JoinedLine
joined_line opcode payload answer m e ok = go (ended opcode payload m ok.good)
  where
    c : Lent
    c = lent (opcode_number opcode) payload answer

    k : Known opcode payload answer
    k = known opcode payload answer e

    f : Follows
    f = follows_command opcode payload

    go : Ended opcode payload m (effect opcode payload m) → Line opcode payload answer m
    go (differs d) = absurd (ok.verified d.fails)
    go (ends x) =
        record {
          closed = subst (λ (l : List ℕ). Closed c m (host_bytes opcode payload (host_answer f l)) (device_bytes payload (device_answer f l)) (next_greeting f)
              (state Over 0 (lent (opcode_number opcode) payload (laid l answer))) (device_at f payload (effect opcode payload m).after) 1) (answer-is opcode payload m ok.good)
              (closed c m e ok.good.fitting (whole opcode answer m payload k ok.good f k.follows_is (tail opcode c (ap awaited_of k.follows_is) k.has_room x)));
          host_sends = counted opcode payload f (answer_bytes opcode payload m);
        }
