-- The session's record, and which ones are unsound (rules, 6.10). Numbers that a phase does not use are ignored when a record comes in,
-- but for the place. They are 0 in every record that an accepted call hands out.
-- Assumes nothing.
use Rattle.std.specs.Prelude.{ℕ, cond, not, eqb, ltb, Option, Some, None}
use Rattle.wire.specs.Unit.{is_in_ram}
use Rattle.machine.specs.declared.Record.{Record}
use Rattle.opcodes.specs.declared.Opcode.{Opcode}
use Rattle.opcodes.specs.declared.Opcode.TheVariants.{Run}
use Rattle.opcodes.specs.Opcode.{opcode_number, opcode_of, has_length, has_answer}
use Rattle.uartboot_flow.specs.declared.step.Step.{Step}
use Rattle.uartboot_flow.specs.declared.step.Step.TheVariants.{Greeting, Header, Command, Answer, Refusal, Running}
use Rattle.uartboot_flow.specs.declared.step.HeaderStep.{HeaderStep}
use Rattle.uartboot_flow.specs.declared.step.HeaderStep.TheVariants.{TakeSoh, TakeOpcode, TakeLow, TakeHigh}
use Rattle.uartboot_flow.specs.declared.step.CommandStep.{CommandStep}
use Rattle.uartboot_flow.specs.declared.step.CommandStep.TheVariants.{SendAck, TakePayload, SendPayloadAck, SendCrcLow, SendCrcHigh, TakeGo}
use Rattle.uartboot_flow.specs.declared.step.AnswerStep.{AnswerStep}
use Rattle.uartboot_flow.specs.declared.step.AnswerStep.TheVariants as a
use Rattle.uartboot_flow.specs.Flow.{greeting_length}
use Rattle.uartboot_flow.specs.Fresh.{kind_number}
use Rattle.uartboot_record.specs.declared.Numbers.{Numbers}

abbrev pub fields : (phase opcode size place held : ℕ) → Numbers
fields phase opcode size place held = record { phase = phase; opcode = opcode; length = size; place = place; held = held }

-- a step in numbers; `held` is a low byte, or the address at which code runs
abbrev pub header_numbers : HeaderStep → Numbers
header_numbers TakeSoh = fields 1 0 0 0 0
header_numbers TakeOpcode = fields 2 0 0 0 0
header_numbers (TakeLow opcode) = fields 3 opcode 0 0 0
header_numbers (TakeHigh opcode low) = fields 4 opcode 0 0 low

abbrev pub command_numbers : (opcode size : ℕ) → CommandStep → Numbers
command_numbers opcode size SendAck = fields 5 opcode size 0 0
command_numbers opcode size (TakePayload place) = fields 6 opcode size place 0
command_numbers opcode size SendPayloadAck = fields 7 opcode size 0 0
command_numbers opcode size SendCrcLow = fields 8 opcode size 0 0
command_numbers opcode size SendCrcHigh = fields 9 opcode size 0 0
command_numbers opcode size TakeGo = fields 10 opcode size 0 0

abbrev pub answer_numbers : (opcode size : ℕ) → AnswerStep → Numbers
answer_numbers opcode size a.SendLengthLow = fields 11 opcode size 0 0
answer_numbers opcode size a.SendLengthHigh = fields 12 opcode size 0 0
answer_numbers opcode size a.TakeGo = fields 13 opcode size 0 0
answer_numbers opcode size (a.SendAnswer place) = fields 14 opcode size place 0
answer_numbers opcode size a.TakeCrcLow = fields 15 opcode size 0 0
answer_numbers opcode size (a.TakeCrcHigh low) = fields 16 opcode size 0 low
answer_numbers opcode size a.SendAck = fields 17 opcode size 0 0

abbrev pub numbers_of : Step → Numbers
numbers_of (Greeting place) = fields 0 0 0 place 0
numbers_of (Header step) = header_numbers step
numbers_of (Command opcode size step) = command_numbers (opcode_number opcode) size step
numbers_of (Answer opcode size step) = answer_numbers (opcode_number opcode) size step
numbers_of Refusal = fields 18 0 0 0 0
numbers_of (Running address) = fields 19 (opcode_number Run) 0 0 address.0

-- the record of a step
unfoldable pub written : Step → (reason : ℕ) → Record
written step reason =
    record {
      kind = kind_number;
      phase = (numbers_of step).phase;
      opcode = (numbers_of step).opcode;
      length = (numbers_of step).length;
      place = (numbers_of step).place;
      held = (numbers_of step).held;
      reason = reason;
      spare = 0;
    }

-- how many places a phase has: one for each byte of the greeting, of a payload or of an answer, and else only 0
abbrev pub places_of : (phase size : ℕ) → ℕ
places_of phase size =
    cond (eqb phase 0) greeting_length
    (cond (eqb phase 6) size
    (cond (eqb phase 14) size
    1))

-- phases 0 to 4; the header's numbers may be any
abbrev pub plain_step : Numbers → Step
plain_step n =
    cond (eqb n.phase 0) (Greeting n.place)
    (cond (eqb n.phase 1) (Header TakeSoh)
    (cond (eqb n.phase 2) (Header TakeOpcode)
    (cond (eqb n.phase 3) (Header (TakeLow n.opcode))
    (Header (TakeHigh n.opcode n.held)))))

-- phases 6 to 10
abbrev pub payload_step : (phase place : ℕ) → CommandStep
payload_step phase place =
    cond (eqb phase 6) (TakePayload place)
    (cond (eqb phase 7) SendPayloadAck
    (cond (eqb phase 8) SendCrcLow
    (cond (eqb phase 9) SendCrcHigh
    TakeGo)))

-- phases 5 to 10, with a work buffer of `work` bytes; a command without payload has only phase 5
abbrev pub command_in : (work : ℕ) → Opcode → Numbers → Option Step
command_in work opcode n =
    cond (not (has_length opcode n.length)) None
    (cond (ltb work n.length) None
    (cond (eqb n.phase 5) (Some (Command opcode n.length SendAck))
    (cond (eqb n.length 0) None
    (Some (Command opcode n.length (payload_step n.phase n.place))))))

-- phases 11 to 17
abbrev pub answer_step : (phase place held : ℕ) → AnswerStep
answer_step phase place held =
    cond (eqb phase 11) a.SendLengthLow
    (cond (eqb phase 12) a.SendLengthHigh
    (cond (eqb phase 13) a.TakeGo
    (cond (eqb phase 14) (a.SendAnswer place)
    (cond (eqb phase 15) a.TakeCrcLow
    (cond (eqb phase 16) (a.TakeCrcHigh held)
    a.SendAck)))))

abbrev pub answer_in : (work : ℕ) → Opcode → Numbers → Option Step
answer_in work opcode n =
    cond (not (has_answer opcode)) None
    (cond (eqb n.length 0) None
    (cond (ltb work n.length) None
    (Some (Answer opcode n.length (answer_step n.phase n.place n.held)))))

-- code runs in RAM, started by the command Run
abbrev pub running_in : (ram opcode address : ℕ) → Option Step
running_in ram opcode address =
    cond (not (eqb opcode (opcode_number Run))) None
    (cond (is_in_ram (record { 0 = address }) ram) (Some (Running (record { 0 = address }))) None)

-- a command's or an answer's opcode must be known
abbrev pub with_opcode : (work : ℕ) → Option Opcode → Numbers → Option Step
with_opcode work None n = None
with_opcode work (Some opcode) n = cond (ltb n.phase 11) (command_in work opcode n) (answer_in work opcode n)

unfoldable pub phase_in : (ram work : ℕ) → Numbers → Option Step
phase_in ram work n =
    cond (ltb n.phase 5) (Some (plain_step n))
    (cond (eqb n.phase 18) (Some Refusal)
    (cond (eqb n.phase 19) (running_in ram n.opcode n.held)
    (cond (ltb 17 n.phase) None
    (with_opcode work (opcode_of n.opcode) n))))

-- a place beyond what its phase takes or sends is unsound
unfoldable pub step_in : (ram work : ℕ) → Numbers → Option Step
step_in ram work n = cond (ltb n.place (places_of n.phase n.length)) (phase_in ram work n) None

-- what a record stands for, with memories of these lengths
unfoldable pub decoded_of : (ram work : ℕ) → Record → Option Step
decoded_of ram work r =
    cond (not (eqb r.kind kind_number)) None
    (step_in ram work (fields r.phase r.opcode r.length r.place r.held))
