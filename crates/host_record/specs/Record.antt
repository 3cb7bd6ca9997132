-- The host's record, and which ones are unsound (rules, 15.6). Numbers that a phase does not use are ignored when a record comes in, but for
-- the place. They are 0 in every record that an accepted call hands out.
-- Assumes nothing.
use Rattle.std.specs.Prelude.{ℕ, cond, ◌&&◌, eqb, ltb, Option, Some, None}
use Rattle.machine.specs.declared.Record.{Record}
use Rattle.host_command.specs.declared.Follows.{Follows}
use Rattle.host_command.specs.declared.Follows.TheVariants.{Answers, Runs, Greets}
use Rattle.host_command.specs.declared.Exchange.{Exchange}
use Rattle.host_flow.specs.declared.step.Step.{Step}
use Rattle.host_flow.specs.declared.step.Step.TheVariants.{TakeGreeting, SendHeader, TakeHeaderAck, SendPayload, TakePayloadAck, TakeCrcLow, TakeCrcHigh, SendGo, SendNak, TakeLengthLow, TakeLengthHigh, SendAnswerGo, TakeAnswer, SendCrcLow, SendCrcHigh, TakeLastAck, Look, Over}
use Rattle.host_flow.specs.Flow.{greeting_length, header_length}
use Rattle.host_flow.specs.Fresh.{kind_number}
use Rattle.host_record.specs.declared.Numbers.{Numbers}

abbrev pub numbers : (phase place held : ℕ) → Numbers
numbers phase place held = record { phase = phase; place = place; held = held }

-- a step in numbers; `held` is the low byte of a CRC or a length
abbrev pub numbers_of : Step → Numbers
numbers_of (TakeGreeting place) = numbers 0 place 0
numbers_of (SendHeader place) = numbers 1 place 0
numbers_of TakeHeaderAck = numbers 2 0 0
numbers_of (SendPayload place) = numbers 3 place 0
numbers_of TakePayloadAck = numbers 4 0 0
numbers_of TakeCrcLow = numbers 5 0 0
numbers_of (TakeCrcHigh low) = numbers 6 0 low
numbers_of SendGo = numbers 7 0 0
numbers_of SendNak = numbers 8 0 0
numbers_of TakeLengthLow = numbers 9 0 0
numbers_of (TakeLengthHigh low) = numbers 10 0 low
numbers_of SendAnswerGo = numbers 11 0 0
numbers_of (TakeAnswer place) = numbers 12 place 0
numbers_of SendCrcLow = numbers 13 0 0
numbers_of SendCrcHigh = numbers 14 0 0
numbers_of TakeLastAck = numbers 15 0 0
numbers_of Look = numbers 16 0 0
numbers_of Over = numbers 17 0 0

-- the record of a step
unfoldable pub written : Step → (reason : ℕ) → Record
written step reason =
    record {
      kind = kind_number;
      phase = (numbers_of step).phase;
      opcode = 0;
      length = 0;
      place = (numbers_of step).place;
      held = (numbers_of step).held;
      reason = reason;
      spare = 0;
    }

-- the step of a phase
unfoldable pub step_of : Numbers → Step
step_of n =
    cond (eqb n.phase 0) (TakeGreeting n.place)
    (cond (eqb n.phase 1) (SendHeader n.place)
    (cond (eqb n.phase 2) TakeHeaderAck
    (cond (eqb n.phase 3) (SendPayload n.place)
    (cond (eqb n.phase 4) TakePayloadAck
    (cond (eqb n.phase 5) TakeCrcLow
    (cond (eqb n.phase 6) (TakeCrcHigh n.held)
    (cond (eqb n.phase 7) SendGo
    (cond (eqb n.phase 8) SendNak
    (cond (eqb n.phase 9) TakeLengthLow
    (cond (eqb n.phase 10) (TakeLengthHigh n.held)
    (cond (eqb n.phase 11) SendAnswerGo
    (cond (eqb n.phase 12) (TakeAnswer n.place)
    (cond (eqb n.phase 13) SendCrcLow
    (cond (eqb n.phase 14) SendCrcHigh
    (cond (eqb n.phase 15) TakeLastAck
    (cond (eqb n.phase 16) Look
    Over))))))))))))))))

-- only place 0, where there are bytes at all
abbrev pub only_first : (size : ℕ) → ℕ
only_first size = cond (eqb size 0) 0 1

-- phases 9 to 16, by what comes after the execution. An answer of length 0 never gets past its length
abbrev pub places_behind : Follows → (phase : ℕ) → ℕ
places_behind (Answers size) phase =
    cond (ltb phase 11) 1
    (cond (eqb phase 12) size
    (cond (ltb phase 16) (only_first size)
    0))
places_behind Runs phase = 0
places_behind Greets phase = cond (eqb phase 16) 1 0

-- how many places a phase has for a command: none where it is unknown, or not this command's
unfoldable pub places_of : Exchange → (phase : ℕ) → ℕ
places_of x phase =
    cond (eqb phase 0) greeting_length
    (cond (eqb phase 1) header_length
    (cond (eqb phase 2) 1
    (cond (eqb phase 3) x.size
    (cond (ltb phase 9) (only_first x.size)
    (cond (ltb phase 17) (places_behind x.follows phase)
    (cond (eqb phase 17) 1
    0))))))

-- what a record stands for, with this command
unfoldable pub decoded_of : Exchange → Record → Option Step
decoded_of x r =
    cond (eqb r.kind kind_number && ltb r.place (places_of x r.phase))
    (Some (step_of (numbers r.phase r.place r.held)))
    None
