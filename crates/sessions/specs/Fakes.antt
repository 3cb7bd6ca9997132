-- Sessions that the definition shuts out (rules, 3.8).
-- Assumes nothing.
use Rattle.std.specs.Prelude.{ℕ, ◌+◌, ◌<◌, ◌≡◌, List, [], ◌∷◌, length, take, get_or, replicate}
use Rattle.wire.specs.Bytes.{Bytes, Word}
use Rattle.wire.specs.Line.{soh, nak}
use Rattle.machine.specs.Call.{call}
use Rattle.machine.specs.Lawful.{Every}
use Rattle.machine.specs.Session.{GivenBack, sound, result_of}
use Rattle.machine.specs.Words.{words_of}
use Rattle.machine.specs.declared.Record.{Record}
use Rattle.opcodes.specs.declared.Opcode.TheVariants.{Erase}
use Rattle.opcodes.specs.Opcode.{opcode_number}
use Rattle.memory.specs.Memories.{Memories, memories}
use Rattle.uartboot_flow.specs.Flow.{greeting_length}
use Rattle.uartboot_flow.specs.Fresh.{fresh_record}
use Rattle.sessions.specs.Kind.{Kind, rom_p, rom_e, uartboot, MemoriesOf, StateOf, session_of, fresh_record_of}

-- a session call's routine
abbrev pub Routine : Kind → Type 0
Routine kind = Record → MemoriesOf kind → (input reply : List ℕ) → GivenBack (MemoriesOf kind)

abbrev pub InBytes : (kind : Kind) → MemoriesOf kind → Type 0
InBytes rom_p ram = Bytes ram
InBytes rom_e ram = Bytes ram
InBytes uartboot m = Bytes m.ram × Bytes m.flash × Bytes m.work

-- a call that a program can make: the record is of words, and what is lent is of bytes
pub record Possible (kind : Kind) (r : Record) (mem : MemoriesOf kind) (input reply : List ℕ) : Type 0 where
  pub words : Every Word (words_of r)
  pub memories : InBytes kind mem
  pub taken_from : Bytes input
  pub sent_to : Bytes reply

-- it keeps the promise of the session's call
abbrev pub Keeps : (kind : Kind) → Routine kind → Type 0
Keeps kind f =
    (r : Record) (mem : MemoriesOf kind) (input reply : List ℕ) → Possible kind r mem input reply →
    f r mem input reply ≡ result_of (session_of kind) r mem input reply

abbrev pub AlwaysRefuses : (kind : Kind) → Routine kind → Type 0
AlwaysRefuses kind f =
    (r : Record) (mem : MemoriesOf kind) (input reply : List ℕ) → Possible kind r mem input reply → (f r mem input reply).report.number ≡ 0 → ⊥

-- with room for 16 bytes an accepted call sends these, whatever comes
abbrev pub AlwaysSends : (kind : Kind) → (bytes : List ℕ) → Routine kind → Type 0
AlwaysSends kind bytes f =
    (r : Record) (mem : MemoriesOf kind) (input reply : List ℕ) → Possible kind r mem input reply → length reply ≡ 16 →
    (f r mem input reply).report.number ≡ 0 → take (f r mem input reply).report.sent (f r mem input reply).reply ≡ bytes

-- a header with these length bytes; uartboot's is that of an Erase
abbrev pub header_of : Kind → (low high : ℕ) → List ℕ
header_of rom_p low high = soh ∷ low ∷ high ∷ []
header_of rom_e low high = soh ∷ low ∷ high ∷ []
header_of uartboot low high = soh ∷ opcode_number Erase ∷ low ∷ high ∷ []

-- how many bytes are sent before a header is taken
abbrev pub greeting_length_of : Kind → ℕ
greeting_length_of rom_p = 1
greeting_length_of rom_e = 1
greeting_length_of uartboot = greeting_length

-- a fresh session answers every header with 15; kind E takes two bytes more where both length bytes are zero
abbrev pub AlwaysNaks : (kind : Kind) → Routine kind → Type 0
AlwaysNaks kind f =
    (mem : MemoriesOf kind) (low high : ℕ) (reply : List ℕ) → Possible kind (fresh_record_of kind) mem (header_of kind low high) reply →
    0 < low + high → length reply ≡ 16 →
    (f (fresh_record_of kind) mem (header_of kind low high) reply).report.number ≡ 0 →
    get_or (f (fresh_record_of kind) mem (header_of kind low high) reply).reply (greeting_length_of kind) 0 ≡ nak

-- it takes and sends nothing
abbrev pub DoesNothing : (kind : Kind) → Routine kind → Type 0
DoesNothing kind f =
    (r : Record) (mem : MemoriesOf kind) (input reply : List ℕ) → Possible kind r mem input reply →
    ((f r mem input reply).report.taken ≡ 0) × ((f r mem input reply).report.sent ≡ 0)

-- its counts are what it took and sent, by the definition of a call
abbrev pub CountsAreTrue : (kind : Kind) → Routine kind → Type 0
CountsAreTrue kind f =
    (r : Record) (mem : MemoriesOf kind) (s : StateOf kind) (input reply : List ℕ) → Possible kind r mem input reply →
    (session_of kind).refusal mem ≡ 0 → (session_of kind).read r mem ≡ sound s →
    let o = call (session_of kind).machine s input (length reply) in
    ((f r mem input reply).report.taken ≡ o.taken) × ((f r mem input reply).report.sent ≡ length o.replies)

-- a byte 11 written to RAM byte 0, then a byte 22 to RAM byte 1; each with the host's 06 after its CRC
abbrev pub two_writes : List ℕ
two_writes =
    0x01 ∷ 0x01 ∷ 0x05 ∷ 0x00 ∷ 0x00 ∷ 0x00 ∷ 0xFC ∷ 0x07 ∷ 0x11 ∷ 0x06
    ∷ 0x01 ∷ 0x01 ∷ 0x05 ∷ 0x00 ∷ 0x01 ∷ 0x00 ∷ 0xFC ∷ 0x07 ∷ 0x22 ∷ 0x06 ∷ []

-- memories of the smallest lengths but two bytes of RAM
abbrev pub small : Memories
small = memories (0x00 ∷ 0x00 ∷ []) (replicate 4096 0xFF) (replicate 64 0x00)

pub record NobodyFakes : Type 0 where
  pub no_constant_refusal : (kind : Kind) (f : Routine kind) → Keeps kind f → AlwaysRefuses kind f → ⊥
  pub no_constant_reply : (kind : Kind) (f : Routine kind) (bytes : List ℕ) → Keeps kind f → AlwaysSends kind bytes f → ⊥
  pub no_constant_nak : (kind : Kind) (f : Routine kind) → Keeps kind f → AlwaysNaks kind f → ⊥
  pub no_idling : (kind : Kind) (f : Routine kind) → Keeps kind f → DoesNothing kind f → ⊥
  pub no_invented_counts : (kind : Kind) (f : Routine kind) → Keeps kind f → CountsAreTrue kind f
  -- of two commands in one call, the second is executed too
  pub no_bare_acknowledgement : (f : Routine uartboot) → Keeps uartboot f →
      (f fresh_record small two_writes (replicate 64 0x00)).memories.ram ≡ 0x11 ∷ 0x22 ∷ []
