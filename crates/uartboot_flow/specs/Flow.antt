-- uartboot's flow, steps 1 to 5 (rules, 6.1 to 6.5). Each line says what a step does: it takes a byte, and the byte says where the flow
-- goes, or it sends a byte and goes on. The reasons of an opcode, of a command and of its execution are in the crates of these.
-- Assumes nothing.
use Rattle.std.specs.Prelude.{ℕ, ◌+◌, cond, not, List, eqb, ltb, length, take, get_or, set, Option, Some, None}
use Rattle.wire.specs.Line.{soh, ack, nak}
use Rattle.numbers.specs.Number.{paired, low_byte, high_byte}
use Rattle.crc.specs.Rule.{rule16}
use Rattle.crc.specs.Crc.{crc_of}
use Rattle.machine.specs.Does.{Does, takes, sends, runs, took_of}
use Rattle.opcodes.specs.declared.Opcode.{Opcode}
use Rattle.opcodes.specs.Opcode.{unknown_opcode, bad_length, opcode_of, has_length}
use Rattle.command.specs.Payload.{command_of}
use Rattle.command_execution.specs.declared.Ending.{Ending}
use Rattle.command_execution.specs.declared.Ending.TheVariants.{Silent, Answers, Runs, Failed}
use Rattle.memory.specs.Memories.{Memories, memories}
use Rattle.command_execution.specs.Execution.{checked, executed}
use Rattle.uartboot_flow.specs.declared.step.Step.{Step}
use Rattle.uartboot_flow.specs.declared.step.Step.TheVariants.{Greeting, Header, Command, Answer, Refusal, Running}
use Rattle.uartboot_flow.specs.declared.step.HeaderStep.{HeaderStep}
use Rattle.uartboot_flow.specs.declared.step.HeaderStep.TheVariants.{TakeSoh, TakeOpcode, TakeLow, TakeHigh}
use Rattle.uartboot_flow.specs.declared.step.CommandStep.{CommandStep}
use Rattle.uartboot_flow.specs.declared.step.CommandStep.TheVariants.{SendAck, TakePayload, SendPayloadAck, SendCrcLow, SendCrcHigh, TakeGo}
use Rattle.uartboot_flow.specs.declared.step.AnswerStep.{AnswerStep}
use Rattle.uartboot_flow.specs.declared.step.AnswerStep.TheVariants as a
use Rattle.uartboot_flow.specs.State.{State, state}

-- 02 01 00 03
abbrev pub greeting_length : ℕ
greeting_length = 4

abbrev pub greeting : (place : ℕ) → ℕ
greeting place = cond (eqb place 0) 0x02 (cond (eqb place 1) 0x01 (cond (eqb place 2) 0x00 0x03))

-- the reasons (rules, 2.2): a length above the work buffer; the host's CRC differs; a byte other than 06
abbrev pub long_payload : ℕ
long_payload = 13

abbrev pub crc_differs : ℕ
crc_differs = 19

abbrev pub not_acked : ℕ
not_acked = 20

-- the CRC-16 of the first bytes of the work buffer
unfoldable pub crc16 : (count : ℕ) (work : List ℕ) → ℕ
crc16 count work = crc_of rule16 (take count work)

-- the flow's first step
abbrev pub first : Step
first = Greeting 0

-- after step 3: without an answer step 1 follows, with an answer step 4; code runs; a failure sends 15
abbrev pub ends : (reason : ℕ) → Opcode → Ending → Memories → State
ends reason opcode Silent m = state first reason m
ends reason opcode (Answers size) m = state (Answer opcode size a.SendLengthLow) reason m
ends reason opcode (Runs address) m = state (Running address) reason m
ends reason opcode (Failed why) m = state Refusal why m

module _ (reason : ℕ) (m : Memories) where
  -- the flow goes on; the last reason and the memories stay (rules, 3.1)
  abbrev pub goes : Step → State
  goes step = state step reason m

  -- a reason is noted; its 15 is sent, and then step 1 follows
  abbrev pub refuses : (why : ℕ) → State
  refuses why = state Refusal why m

  -- a byte other than 06: nothing is sent, step 1 follows
  abbrev pub abandons : State
  abandons = state first not_acked m

  abbrev pub executes : Opcode → (size : ℕ) → State
  executes opcode size = let e = executed opcode size m in ends reason opcode e.ending e.after

  -- step 1: the greeting; then bytes are dropped until 01; then opcode, low and high byte of the length; reasons 11, 12, 13
  abbrev pub greets : (place : ℕ) → Does ℕ State
  greets place = sends (greeting place) (goes (cond (ltb (place + 1) greeting_length) (Greeting (place + 1)) (Header TakeSoh)))

  abbrev pub headed : Option Opcode → (size : ℕ) → State
  headed None size = refuses unknown_opcode
  headed (Some opcode) size =
      cond (not (has_length opcode size)) (refuses bad_length)
      (cond (ltb (length m.work) size) (refuses long_payload)
      (goes (Command opcode size SendAck)))

  abbrev pub header : HeaderStep → Does ℕ State
  header TakeSoh = takes (λ byte. goes (Header (cond (eqb byte soh) TakeOpcode TakeSoh)))
  header TakeOpcode = takes (λ byte. goes (Header (TakeLow byte)))
  header (TakeLow opcode) = takes (λ byte. goes (Header (TakeHigh opcode byte)))
  header (TakeHigh opcode low) = takes (λ byte. headed (opcode_of opcode) (paired low byte))

  -- step 2: `count` of the payload's bytes are in; after the last one it is checked
  abbrev pub checked_with : (why : ℕ) → Opcode → (size : ℕ) → State
  checked_with why opcode size = cond (eqb why 0) (goes (Command opcode size SendPayloadAck)) (refuses why)

  abbrev pub arrived : Opcode → (size count : ℕ) → State
  arrived opcode size count =
      cond (ltb count size) (goes (Command opcode size (TakePayload count)))
      (checked_with (checked (command_of opcode size m.work) m) opcode size)

-- the payload's byte stored at its place (rules, 1.3)
abbrev pub stored : (place byte : ℕ) → Memories → Memories
stored place byte m = memories m.ram m.flash (set m.work place byte)

-- `count` of an answer's bytes are sent
abbrev pub showed : Opcode → (size count : ℕ) → Step
showed opcode size count = Answer opcode size (cond (ltb count size) (a.SendAnswer count) a.TakeCrcLow)

module _ (reason : ℕ) (m : Memories) where
  -- after the header's 06: step 3 for a command without payload, and else its payload
  abbrev pub after_ack : Opcode → (size : ℕ) → State
  after_ack opcode size = cond (eqb size 0) (executes reason m opcode size) (goes reason m (Command opcode size (TakePayload 0)))

  -- the header's 06 and step 2; step 3 follows the host's 06
  abbrev pub command : Opcode → (size : ℕ) → CommandStep → Does ℕ State
  command opcode size SendAck = sends ack (after_ack opcode size)
  command opcode size (TakePayload place) = takes (λ byte. arrived reason (stored place byte m) opcode size (place + 1))
  command opcode size SendPayloadAck = sends ack (goes reason m (Command opcode size SendCrcLow))
  command opcode size SendCrcLow = sends (low_byte (crc16 size m.work)) (goes reason m (Command opcode size SendCrcHigh))
  command opcode size SendCrcHigh = sends (high_byte (crc16 size m.work)) (goes reason m (Command opcode size TakeGo))
  command opcode size TakeGo = takes (λ byte. cond (eqb byte ack) (executes reason m opcode size) (abandons reason m))

  -- step 4, at its end: the host's CRC is compared with the answer's
  abbrev pub hosted : Opcode → (size crc : ℕ) → State
  hosted opcode size crc =
      cond (eqb crc (crc16 size m.work)) (goes reason m (Answer opcode size a.SendAck)) (refuses reason m crc_differs)

  -- step 4
  abbrev pub answer : Opcode → (size : ℕ) → AnswerStep → Does ℕ State
  answer opcode size a.SendLengthLow = sends (low_byte size) (goes reason m (Answer opcode size a.SendLengthHigh))
  answer opcode size a.SendLengthHigh = sends (high_byte size) (goes reason m (Answer opcode size a.TakeGo))
  answer opcode size a.TakeGo = takes (λ byte. cond (eqb byte ack) (goes reason m (Answer opcode size (a.SendAnswer 0))) (abandons reason m))
  answer opcode size (a.SendAnswer place) = sends (get_or m.work place 0) (goes reason m (showed opcode size (place + 1)))
  answer opcode size a.TakeCrcLow = takes (λ byte. goes reason m (Answer opcode size (a.TakeCrcHigh byte)))
  answer opcode size (a.TakeCrcHigh low) = takes (λ byte. hosted opcode size (paired low byte))
  answer opcode size a.SendAck = sends ack (goes reason m first)

  -- step 5: every 15 also leads to step 1
  abbrev pub does_at : Step → Does ℕ State
  does_at (Greeting place) = greets reason m place
  does_at (Header step) = header reason m step
  does_at (Command opcode size step) = command opcode size step
  does_at (Answer opcode size step) = answer opcode size step
  does_at Refusal = sends nak (goes reason m first)
  does_at (Running address) = runs

abbrev pub does : State → Does ℕ State
does s = does_at s.reason s.mem s.step

-- the state once a byte is taken
abbrev pub took : State → (byte : ℕ) → State
took s byte = took_of (does s) s byte
