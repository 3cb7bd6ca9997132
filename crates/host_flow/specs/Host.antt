-- The host as a machine (rules, 15.4): the next greeting's 02 is shown and left untaken.
-- Assumes nothing.
use Rattle.std.specs.Prelude.{ℕ, Bool, true, false, ◌&&◌, eqb}
use Rattle.wire.specs.Line.{stx}
use Rattle.machine.specs.Machine.{Machine}
use Rattle.machine.specs.Does.{line_of}
use Rattle.machine.specs.Leaving.{leaving}
use Rattle.host_flow.specs.declared.step.Step.{Step}
use Rattle.host_flow.specs.declared.step.Step.TheVariants.{TakeGreeting, SendHeader, TakeHeaderAck, SendPayload, TakePayloadAck, TakeCrcLow, TakeCrcHigh, SendGo, SendNak, TakeLengthLow, TakeLengthHigh, SendAnswerGo, TakeAnswer, SendCrcLow, SendCrcHigh, TakeLastAck, Look, Over}
use Rattle.host_flow.specs.State.{State}
use Rattle.host_flow.specs.Flow.{does}
use Rattle.host_flow.specs.Due.{due}

-- the step that looks for the next greeting
abbrev pub is_look : Step → Bool
is_look (TakeGreeting place) = false
is_look (SendHeader place) = false
is_look TakeHeaderAck = false
is_look (SendPayload place) = false
is_look TakePayloadAck = false
is_look TakeCrcLow = false
is_look (TakeCrcHigh low) = false
is_look SendGo = false
is_look SendNak = false
is_look TakeLengthLow = false
is_look (TakeLengthHigh low) = false
is_look SendAnswerGo = false
is_look (TakeAnswer place) = false
is_look SendCrcLow = false
is_look SendCrcHigh = false
is_look TakeLastAck = false
is_look Look = true
is_look Over = false

abbrev pub leaves : State → (byte : ℕ) → Bool
leaves s byte = is_look s.step && eqb byte stx

abbrev pub host : Machine ℕ State
host = leaving leaves (line_of does due)
