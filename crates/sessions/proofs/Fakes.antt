-- The definition shuts out the fakes, by what it gives for a few calls.
-- Assumes nothing.
use Prim.Native.Nat.{ℕ, ◌+◌, ◌<◌}
use native.Mathlib.Omega.{arith}
use mathlib.Core.Path.{◌≡◌, refl, sym, ap, ◌∙◌}
use mathlib.Core.Bool.{true}
use mathlib.Core.List.{List, [], ◌∷◌}
use lib.ListN.{length, take, get_or, replicate}
use Rattle.machine.specs.Call.{act, call}
use Rattle.machine.specs.Session.{GivenBack, accepted, result_of}
use Rattle.machine.specs.declared.Record.{Record}
use Rattle.wire.specs.Bytes.{Word}
use Rattle.wire.specs.Line.{ack, nak}
use Rattle.numbers.specs.Number.{number_at}
use Rattle.wire.specs.Range.{lies_in}
use Rattle.wire.specs.Length.{is_between, is_flash_length}
use Rattle.wire.proofs.Bytes.{are_bytes, are-bytes}
use Rattle.machine.specs.Lawful.{Every}
use Rattle.machine.specs.Words.{words_of}
use Rattle.rom_record.specs.Record as rom-record
use Rattle.command.specs.Check.{judged}
use Rattle.opcodes.specs.Opcode.{opcode_of}
use Rattle.command_execution.specs.Execution.{executed}
use Rattle.uartboot_flow.specs.Fresh.{fresh_record}
use Rattle.uartboot_record.specs.Record as device-record
use Rattle.uartboot.specs.Session as device-session
use Rattle.sessions.specs.Kind.{Kind, rom_p, rom_e, uartboot, MemoriesOf, session_of, fresh_record_of}
use Rattle.sessions.specs.Fakes.{Routine, InBytes, Possible, Keeps, header_of, greeting_length_of, two_writes, small, NobodyFakes}

-- memories of an accepted length, and a first call on them with room for 16 bytes
abbrev sample : (kind : Kind) → MemoriesOf kind
sample rom_p = 0x00 ∷ []
sample rom_e = 0x00 ∷ []
sample uartboot = small

abbrev start : (kind : Kind) → Record
start kind = fresh_record_of kind

abbrev room : List ℕ
room = replicate 16 0x00

-- such a call can be made
words-fit : (kind : Kind) → Every Word (words_of (start kind))
words-fit rom_p = (omega arith, (omega arith, (omega arith, (omega arith, (omega arith, (omega arith, (omega arith, (omega arith, tt))))))))
words-fit rom_e = (omega arith, (omega arith, (omega arith, (omega arith, (omega arith, (omega arith, (omega arith, (omega arith, tt))))))))
words-fit uartboot = (omega arith, (omega arith, (omega arith, (omega arith, (omega arith, (omega arith, (omega arith, (omega arith, tt))))))))

sample-fits : (kind : Kind) → InBytes kind (sample kind)
sample-fits rom_p = are-bytes (sample rom_p) refl
sample-fits rom_e = are-bytes (sample rom_e) refl
sample-fits uartboot = (are-bytes small.ram refl, are-bytes small.flash refl, are-bytes small.work refl)

possible : (kind : Kind) (input reply : List ℕ) → are_bytes input ≡ true → are_bytes reply ≡ true → Possible kind (start kind) (sample kind) input reply
possible kind input reply i j = record { words = words-fit kind; memories = sample-fits kind; taken_from = are-bytes input i; sent_to = are-bytes reply j }

abbrev first_call : (kind : Kind) (input : List ℕ) → GivenBack (MemoriesOf kind)
first_call kind input = result_of (session_of kind) (start kind) (sample kind) input room

-- a stream that is refused
abbrev refused_stream : Kind → List ℕ
refused_stream rom_p = 0x00 ∷ []
refused_stream rom_e = 0x00 ∷ []
refused_stream uartboot = 0x01 ∷ 0x00 ∷ 0x00 ∷ 0x00 ∷ []

-- the low length byte of a header that is accepted
abbrev accepted_low : Kind → ℕ
accepted_low rom_p = 1
accepted_low rom_e = 1
accepted_low uartboot = 8

abbrev refused_length : Kind → ℕ
refused_length rom_p = 3
refused_length rom_e = 3
refused_length uartboot = 9

calls-accepted : (kind : Kind) → ((first_call kind []).report.number ≡ 0) × ((first_call kind (refused_stream kind)).report.number ≡ 0)
unfolding result_of accepted rom-record.decoded_of rom-record.step_in rom-record.phase_in is_between is_flash_length device-record.decoded_of device-record.step_in device-record.phase_in device-session.refusal_of
calls-accepted rom_p = (refl, refl)
calls-accepted rom_e = (refl, refl)
calls-accepted uartboot = (refl, refl)

first-sent : (kind : Kind) → (first_call kind []).report.sent ≡ greeting_length_of kind
unfolding result_of accepted act call rom-record.decoded_of rom-record.step_in rom-record.phase_in is_between is_flash_length device-record.decoded_of device-record.step_in device-record.phase_in device-session.refusal_of
first-sent rom_p = refl
first-sent rom_e = refl
first-sent uartboot = refl

bytes-sent : (kind : Kind) → (length (take (first_call kind []).report.sent (first_call kind []).reply) ≡ greeting_length_of kind)
    × (length (take (first_call kind (refused_stream kind)).report.sent (first_call kind (refused_stream kind)).reply) ≡ refused_length kind)
unfolding result_of accepted act call rom-record.decoded_of rom-record.step_in rom-record.phase_in is_between is_flash_length device-record.decoded_of device-record.step_in device-record.phase_in device-session.refusal_of opcode_of
bytes-sent rom_p = (refl, refl)
bytes-sent rom_e = (refl, refl)
bytes-sent uartboot = (refl, refl)

-- an accepted header is answered with 06
acknowledged : (kind : Kind) → let a = first_call kind (header_of kind (accepted_low kind) 0) in
    (a.report.number ≡ 0) × (get_or a.reply (greeting_length_of kind) 0 ≡ ack)
unfolding result_of accepted act call rom-record.decoded_of rom-record.step_in rom-record.phase_in is_between is_flash_length device-record.decoded_of device-record.step_in device-record.phase_in device-session.refusal_of opcode_of
acknowledged rom_p = (refl, refl)
acknowledged rom_e = (refl, refl)
acknowledged uartboot = (refl, refl)

some-low : (kind : Kind) → 0 < accepted_low kind + 0
some-low rom_p = omega arith
some-low rom_e = omega arith
some-low uartboot = omega arith

differ : (kind : Kind) → greeting_length_of kind ≡ refused_length kind → ⊥
differ rom_p e = omega arith
differ rom_e e = omega arith
differ uartboot e = omega arith

some : (kind : Kind) → greeting_length_of kind ≡ 0 → ⊥
some rom_p e = omega arith
some rom_e e = omega arith
some uartboot e = omega arith

numbered : (kind : Kind) (f : Routine kind) → Keeps kind f → (input : List ℕ) → are_bytes input ≡ true →
    (f (start kind) (sample kind) input room).report.number ≡ (first_call kind input).report.number
numbered kind f keeps input e = ap (λ (a : GivenBack (MemoriesOf kind)). a.report.number) (keeps (start kind) (sample kind) input room (possible kind input room e refl))

-- the streams below are of bytes
refused-bytes : (kind : Kind) → are_bytes (refused_stream kind) ≡ true
refused-bytes rom_p = refl
refused-bytes rom_e = refl
refused-bytes uartboot = refl

header-bytes : (kind : Kind) → are_bytes (header_of kind (accepted_low kind) 0) ≡ true
header-bytes rom_p = refl
header-bytes rom_e = refl
header-bytes uartboot = refl

-- a call with both Writes and room for all replies
both-written : (result_of (session_of uartboot) fresh_record small two_writes (replicate 64 0x00)).memories.ram ≡ 0x11 ∷ 0x22 ∷ []
unfolding result_of accepted act call is_between is_flash_length device-record.decoded_of device-record.step_in device-record.phase_in device-session.refusal_of judged executed opcode_of number_at lies_in
both-written = refl

-- how many bytes a result shows
abbrev shown_by : (kind : Kind) → GivenBack (MemoriesOf kind) → ℕ
shown_by kind a = length (take a.report.sent a.reply)

pub nobody-fakes : NobodyFakes
unfolding result_of accepted
nobody-fakes =
    record {
      no_constant_refusal = λ kind f keeps refuses.
          refuses (start kind) (sample kind) [] room (possible kind [] room refl refl) (numbered kind f keeps [] refl ∙ (calls-accepted kind).0);
      no_constant_reply = λ kind f bytes keeps sends.
          let here = possible kind [] room refl refl in
          let there = possible kind (refused_stream kind) room (refused-bytes kind) refl in
          let one = ap length (sends (start kind) (sample kind) [] room here refl (numbered kind f keeps [] refl ∙ (calls-accepted kind).0)) in
          let two = ap length (sends (start kind) (sample kind) (refused_stream kind) room there refl (numbered kind f keeps (refused_stream kind) (refused-bytes kind) ∙ (calls-accepted kind).1)) in
          differ kind
          (sym (ap (shown_by kind) (keeps (start kind) (sample kind) [] room here) ∙ (bytes-sent kind).0) ∙ one
          ∙ sym two ∙ ap (shown_by kind) (keeps (start kind) (sample kind) (refused_stream kind) room there) ∙ (bytes-sent kind).1);
      no_constant_nak = λ kind f keeps naks.
          let header = header_of kind (accepted_low kind) 0 in
          let here = possible kind header room (header-bytes kind) refl in
          let nak-sent = naks (sample kind) (accepted_low kind) 0 room here (some-low kind) refl (numbered kind f keeps header (header-bytes kind) ∙ (acknowledged kind).0) in
          let ack-sent = ap (λ (a : GivenBack (MemoriesOf kind)). get_or a.reply (greeting_length_of kind) 0) (keeps (start kind) (sample kind) header room here) ∙ (acknowledged kind).1 in
          let z : ack ≡ nak = sym ack-sent ∙ nak-sent in omega arith;
      no_idling = λ kind f keeps idles.
          let here = possible kind [] room refl refl in
          some kind (sym (ap (λ (a : GivenBack (MemoriesOf kind)). a.report.sent) (keeps (start kind) (sample kind) [] room here) ∙ first-sent kind)
          ∙ (idles (start kind) (sample kind) [] room here).1);
      no_invented_counts = λ kind f keeps r mem s input reply here fits reads.
          rw (keeps r mem input reply here) (simp (fits, reads) (refl, refl));
      no_bare_acknowledgement = λ f keeps. ap (λ (a : GivenBack (MemoriesOf uartboot)). a.memories.ram) (keeps fresh_record small two_writes (replicate 64 0x00) (possible uartboot two_writes (replicate 64 0x00) refl refl)) ∙ both-written;
    }
