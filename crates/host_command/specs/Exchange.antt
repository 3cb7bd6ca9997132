-- The command that a host is lent, and what the host knows from it: what comes after its execution, and how long its answer must be
-- (rules, 15.1 and 15.2).
-- Assumes nothing.
use Rattle.std.specs.Prelude.{ℕ, ◌≡◌, cond, List, length, Option, Some, None}
use Rattle.opcodes.specs.declared.Opcode.{Opcode}
use Rattle.opcodes.specs.Opcode.{opcode_of, has_answer, is_run}
use Rattle.command.specs.Payload.{command_of}
use Rattle.command.specs.Check.{checks_of}
use Rattle.host_command.specs.declared.Follows.{Follows}
use Rattle.host_command.specs.declared.Follows.TheVariants.{Answers, Runs, Greets}
use Rattle.host_command.specs.declared.Exchange.{Exchange}

-- lent at each call: a command, which is an opcode's number and a payload, and a buffer for its answer
pub record Lent : Type 0 where
  pub opcode : ℕ
  pub payload : List ℕ
  pub answer : List ℕ

abbrev pub lent : (opcode : ℕ) (payload answer : List ℕ) → Lent
lent opcode payload answer = record { opcode = opcode; payload = payload; answer = answer }

-- the same command, and an answer buffer of the same length
pub record SameLent (a b : Lent) : Type 0 where
  pub same_opcode : a.opcode ≡ b.opcode
  pub same_payload : a.payload ≡ b.payload
  pub same_length : length a.answer ≡ length b.answer

-- what comes after a command's execution: an answer, as long as the command says; nothing, since code runs; the next greeting
abbrev pub follows_command : Opcode → (payload : List ℕ) → Follows
follows_command opcode payload =
    cond (has_answer opcode) (Answers (checks_of (command_of opcode (length payload) payload)).answer)
    (cond (is_run opcode) Runs Greets)

-- a number that stands for no opcode is refused before anything follows
abbrev pub follows_lookup : Option Opcode → (payload : List ℕ) → Follows
follows_lookup (Some opcode) payload = follows_command opcode payload
follows_lookup None payload = Greets

-- how long an answer must be; 0 where none is awaited
abbrev pub awaited_of : Follows → ℕ
awaited_of (Answers size) = size
awaited_of Runs = 0
awaited_of Greets = 0

-- all that the host knows from a command
unfoldable pub exchange_of : (opcode : ℕ) (payload : List ℕ) → Exchange
exchange_of opcode payload = record { opcode = opcode; size = length payload; follows = follows_lookup (opcode_of opcode) payload }

abbrev pub exchange : Lent → Exchange
exchange c = exchange_of c.opcode c.payload

abbrev pub awaited : Lent → ℕ
awaited c = awaited_of (exchange c).follows
