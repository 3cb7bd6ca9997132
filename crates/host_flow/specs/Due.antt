-- How many bytes a host sends before it takes one or is over (rules, 3.4).
-- Assumes nothing.
use Rattle.std.specs.Prelude.{ℕ, ◌-◌}
use Rattle.host_command.specs.Exchange.{Lent, exchange}
use Rattle.host_flow.specs.declared.step.Step.{Step}
use Rattle.host_flow.specs.declared.step.Step.TheVariants.{TakeGreeting, SendHeader, TakeHeaderAck, SendPayload, TakePayloadAck, TakeCrcLow, TakeCrcHigh, SendGo, SendNak, TakeLengthLow, TakeLengthHigh, SendAnswerGo, TakeAnswer, SendCrcLow, SendCrcHigh, TakeLastAck, Look, Over}
use Rattle.host_flow.specs.State.{State}
use Rattle.host_flow.specs.Flow.{header_length}

abbrev pub due_at : Lent → Step → ℕ
due_at c (TakeGreeting place) = 0
due_at c (SendHeader place) = header_length - place
due_at c TakeHeaderAck = 0
due_at c (SendPayload place) = (exchange c).size - place
due_at c TakePayloadAck = 0
due_at c TakeCrcLow = 0
due_at c (TakeCrcHigh low) = 0
due_at c SendGo = 1
due_at c SendNak = 1
due_at c TakeLengthLow = 0
due_at c (TakeLengthHigh low) = 0
due_at c SendAnswerGo = 1
due_at c (TakeAnswer place) = 0
due_at c SendCrcLow = 2
due_at c SendCrcHigh = 1
due_at c TakeLastAck = 0
due_at c Look = 0
due_at c Over = 0

abbrev pub due : State → ℕ
due s = due_at s.lent s.step
