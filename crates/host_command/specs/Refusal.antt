-- The refusals of a host's command (rules, 2.1 and 15.2): 71, then 72, before any byte is sent.
-- Assumes nothing.
use Rattle.std.specs.Prelude.{ℕ, Bool, false, cond, not, ◌&&◌, eqb, leb, ltb, length, Option, Some, None, Result, Ok, Err}
use Rattle.opcodes.specs.Opcode.{opcode_of, has_length}
use Rattle.host_command.specs.declared.Exchange.{Exchange}
use Rattle.host_command.specs.declared.Refusal.{Refusal}
use Rattle.host_command.specs.declared.Refusal.TheVariants.{BadCommand, ShortAnswer}
use Rattle.host_command.specs.Exchange.{Lent, exchange, awaited}
use Rattle.opcodes.specs.declared.Opcode.{Opcode}

-- the numbers: no command, or not with this length; an answer buffer that is too short
abbrev pub bad_command : ℕ
bad_command = 71

abbrev pub short_answer : ℕ
short_answer = 72

-- the most that the two length bytes of a header say
abbrev pub longest_payload : ℕ
longest_payload = 65535

-- an opcode, with a payload length that it has and that a header can say
abbrev pub is_command : Option Opcode → (size : ℕ) → Bool
is_command (Some opcode) size = has_length opcode size && leb size longest_payload
is_command None size = false

-- tested in this order; 0 where neither is given
unfoldable pub refusal_of : Lent → ℕ
refusal_of c =
    cond (not (is_command (opcode_of c.opcode) (length c.payload))) bad_command
    (cond (ltb (length c.answer) (awaited c)) short_answer
    0)

abbrev pub refusal_number : Refusal → ℕ
refusal_number BadCommand = bad_command
refusal_number ShortAnswer = short_answer

-- the refusal with a number
abbrev pub refusal_with : (number : ℕ) → Refusal
refusal_with number = cond (eqb number bad_command) BadCommand ShortAnswer

-- refused, or all that the host knows from the command
abbrev pub judged_of : Lent → Result Exchange Refusal
judged_of c = cond (eqb (refusal_of c) 0) (Ok (exchange c)) (Err (refusal_with (refusal_of c)))
