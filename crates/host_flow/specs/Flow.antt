-- The host's flow (rules, 15.3 to 15.5), its reasons (rules, 2.2) and its end (rules, 15.1). Each line says what a step does: it takes a
-- byte, and the byte says where the flow goes, or it sends a byte and goes on. That a look leaves 02 untaken is stated in Host.
-- Assumes nothing.
use Rattle.std.specs.Prelude.{ℕ, ◌+◌, Bool, cond, not, ◌&&◌, List, eqb, ltb, take, get_or, set}
use Rattle.wire.specs.Line.{stx, soh, ack, nak}
use Rattle.numbers.specs.Number.{paired, low_byte, high_byte}
use Rattle.crc.specs.Rule.{rule16}
use Rattle.crc.specs.Crc.{crc_of}
use Rattle.machine.specs.Does.{Does, takes, sends, runs}
use Rattle.host_command.specs.declared.Follows.{Follows}
use Rattle.host_command.specs.declared.Follows.TheVariants.{Answers, Runs, Greets}
use Rattle.host_command.specs.declared.Exchange.{Exchange}
use Rattle.host_command.specs.Exchange.{Lent, lent, exchange, awaited}
use Rattle.host_flow.specs.declared.step.Step.{Step}
use Rattle.host_flow.specs.declared.step.Step.TheVariants.{TakeGreeting, SendHeader, TakeHeaderAck, SendPayload, TakePayloadAck, TakeCrcLow, TakeCrcHigh, SendGo, SendNak, TakeLengthLow, TakeLengthHigh, SendAnswerGo, TakeAnswer, SendCrcLow, SendCrcHigh, TakeLastAck, Look, Over}
use Rattle.host_flow.specs.State.{State, state}

-- the reasons: the device sent 15; its CRC differs; a byte, or an answer length, that the flow doesn't allow
abbrev pub device_refused : ℕ
device_refused = 73

abbrev pub device_crc : ℕ
device_crc = 74

abbrev pub out_of_flow : ℕ
out_of_flow = 75

-- a greeting is 02, any, any, 03
abbrev pub etx : ℕ
etx = 0x03

abbrev pub greeting_length : ℕ
greeting_length = 4

-- a header is 01, the opcode, the payload's length, low byte first
abbrev pub header_length : ℕ
header_length = 4

abbrev pub header_byte : Exchange → (place : ℕ) → ℕ
header_byte x place =
    cond (eqb place 0) soh
    (cond (eqb place 1) x.opcode
    (cond (eqb place 2) (low_byte x.size)
    (high_byte x.size)))

-- the CRC-16 of the lent payload, and of the answer as it is in the lent buffer
unfoldable pub payload_crc : (payload : List ℕ) → ℕ
payload_crc payload = crc_of rule16 payload

unfoldable pub answer_crc : (size : ℕ) (answer : List ℕ) → ℕ
answer_crc size answer = crc_of rule16 (take size answer)

-- after the execution: the answer; nothing more, since code runs; the next greeting
abbrev pub behind : Follows → Step
behind (Answers size) = TakeLengthLow
behind Runs = Over
behind Greets = Look

-- after the header's 06: the payload, where there is one
abbrev pub headed : Exchange → Step
headed x = cond (eqb x.size 0) (behind x.follows) (SendPayload 0)

-- `count` of the payload's bytes are sent; `count` of the answer's bytes are in
abbrev pub paid : (size count : ℕ) → Step
paid size count = cond (ltb count size) (SendPayload count) TakePayloadAck

abbrev pub collected : (size count : ℕ) → Step
collected size count = cond (ltb count size) (TakeAnswer count) SendCrcLow

-- a low length byte 15 refuses, unless it is the awaited one; an answer has the awaited length, and never 0
abbrev pub refuses_answer : (size low : ℕ) → Bool
refuses_answer size low = eqb low nak && not (eqb low (low_byte size))

abbrev pub is_awaited : (size came : ℕ) → Bool
is_awaited size came = eqb came size && not (eqb came 0)

-- an answer's byte stored at its place
abbrev pub stored : (place byte : ℕ) → Lent → Lent
stored place byte c = lent c.opcode c.payload (set c.answer place byte)

module _ (reason : ℕ) (c : Lent) where
  -- the flow goes on; the reason and what is lent stay
  abbrev pub goes : Step → State
  goes step = state step reason c

  -- a reason ends the command
  abbrev pub ends : (why : ℕ) → State
  ends why = state Over why c

  -- 02, 03 or 06 is awaited: 15 in its place is 73, any other byte 75
  abbrev pub expected : (awaits byte : ℕ) → Step → State
  expected awaits byte next = cond (eqb byte awaits) (goes next) (ends (cond (eqb byte nak) device_refused out_of_flow))

  abbrev pub greeted : (place byte : ℕ) → State
  greeted place byte =
      cond (eqb place 0) (expected stx byte (TakeGreeting 1))
      (cond (ltb (place + 1) greeting_length) (goes (TakeGreeting (place + 1)))
      (expected etx byte (SendHeader 0)))

  -- the device's CRC is compared with the payload's; where they differ, 15 is sent
  abbrev pub crc_came : (crc : ℕ) → State
  crc_came crc = cond (eqb crc (payload_crc c.payload)) (goes SendGo) (state SendNak device_crc c)

  -- the answer's length: its low byte, and both
  abbrev pub length_began : (low : ℕ) → State
  length_began low = cond (refuses_answer (awaited c) low) (ends device_refused) (goes (TakeLengthHigh low))

  abbrev pub length_came : (size : ℕ) → State
  length_came size = cond (is_awaited (awaited c) size) (goes SendAnswerGo) (ends out_of_flow)

  abbrev pub answered : (place byte : ℕ) → State
  answered place byte = state (collected (awaited c) (place + 1)) reason (stored place byte c)

  -- once it is over no action is left
  abbrev pub does_at : Step → Does ℕ State
  does_at (TakeGreeting place) = takes (λ byte. greeted place byte)
  does_at (SendHeader place) = sends (header_byte (exchange c) place) (goes (cond (ltb (place + 1) header_length) (SendHeader (place + 1)) TakeHeaderAck))
  does_at TakeHeaderAck = takes (λ byte. expected ack byte (headed (exchange c)))
  does_at (SendPayload place) = sends (get_or c.payload place 0) (goes (paid (exchange c).size (place + 1)))
  does_at TakePayloadAck = takes (λ byte. expected ack byte TakeCrcLow)
  does_at TakeCrcLow = takes (λ byte. goes (TakeCrcHigh byte))
  does_at (TakeCrcHigh low) = takes (λ byte. crc_came (paired low byte))
  does_at SendGo = sends ack (goes (behind (exchange c).follows))
  does_at SendNak = sends nak (goes Over)
  does_at TakeLengthLow = takes (λ byte. length_began byte)
  does_at (TakeLengthHigh low) = takes (λ byte. length_came (paired low byte))
  does_at SendAnswerGo = sends ack (goes (TakeAnswer 0))
  does_at (TakeAnswer place) = takes (λ byte. answered place byte)
  does_at SendCrcLow = sends (low_byte (answer_crc (awaited c) c.answer)) (goes SendCrcHigh)
  does_at SendCrcHigh = sends (high_byte (answer_crc (awaited c) c.answer)) (goes TakeLastAck)
  does_at TakeLastAck = takes (λ byte. expected ack byte Over)
  does_at Look = takes (λ byte. expected stx byte Over)
  does_at Over = runs

abbrev pub does : State → Does ℕ State
does s = does_at s.reason s.lent s.step
