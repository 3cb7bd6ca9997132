-- What holds of every state that calls can reach.
-- Assumes nothing.
use Rattle.std.specs.Prelude.{◌<◌, ◌≡◌}
use Rattle.host_command.specs.declared.Follows.{Follows}
use Rattle.host_command.specs.declared.Follows.TheVariants.{Answers, Runs, Greets}
use Rattle.host_command.specs.declared.Exchange.{Exchange}
use Rattle.host_command.specs.Exchange.{Lent, exchange, awaited_of}
use Rattle.host_command.specs.Refusal.{refusal_of}
use Rattle.host_flow.specs.declared.step.Step.{Step}
use Rattle.host_flow.specs.declared.step.Step.TheVariants.{TakeGreeting, SendHeader, TakeHeaderAck, SendPayload, TakePayloadAck, TakeCrcLow, TakeCrcHigh, SendGo, SendNak, TakeLengthLow, TakeLengthHigh, SendAnswerGo, TakeAnswer, SendCrcLow, SendCrcHigh, TakeLastAck, Look, Over}
use Rattle.host_flow.specs.State.{State}
use Rattle.host_flow.specs.Flow.{greeting_length, header_length}

-- an answer follows
abbrev pub HasAnswer : Follows → Type 0
HasAnswer (Answers size) = Unit {0}
HasAnswer Runs = ⊥
HasAnswer Greets = ⊥

-- a step that this command has
abbrev pub SoundStep : Exchange → Step → Type 0
SoundStep x (TakeGreeting place) = place < greeting_length
SoundStep x (SendHeader place) = place < header_length
SoundStep x TakeHeaderAck = Unit {0}
SoundStep x (SendPayload place) = place < x.size
SoundStep x TakePayloadAck = 0 < x.size
SoundStep x TakeCrcLow = 0 < x.size
SoundStep x (TakeCrcHigh low) = 0 < x.size
SoundStep x SendGo = 0 < x.size
SoundStep x SendNak = 0 < x.size
SoundStep x TakeLengthLow = HasAnswer x.follows
SoundStep x (TakeLengthHigh low) = HasAnswer x.follows
SoundStep x SendAnswerGo = 0 < awaited_of x.follows
SoundStep x (TakeAnswer place) = place < awaited_of x.follows
SoundStep x SendCrcLow = 0 < awaited_of x.follows
SoundStep x SendCrcHigh = 0 < awaited_of x.follows
SoundStep x TakeLastAck = 0 < awaited_of x.follows
SoundStep x Look = x.follows ≡ Greets
SoundStep x Over = Unit {0}

-- a step to go on from, with what is lent
pub record Ready (step : Step) (c : Lent) : Type 0 where
  pub accepted : refusal_of c ≡ 0
  pub step_sound : SoundStep (exchange c) step

abbrev pub Sound : State → Type 0
Sound s = Ready s.step s.lent
