-- What is lent to a host stays, but for the bytes of the answer that have come (rules, 15.5).
-- Assumes nothing.
use Rattle.std.specs.Prelude.{ℕ, ◌≡◌, Bool, true, false, cond, List, [], ◌∷◌, ◌++◌}
use Rattle.memory.specs.Store.{laid}
use Rattle.machine.specs.History.{Event}
use Rattle.host_command.specs.Exchange.{Lent, lent}
use Rattle.host_flow.specs.declared.step.Step.{Step}
use Rattle.host_flow.specs.declared.step.Step.TheVariants.{TakeGreeting, SendHeader, TakeHeaderAck, SendPayload, TakePayloadAck, TakeCrcLow, TakeCrcHigh, SendGo, SendNak, TakeLengthLow, TakeLengthHigh, SendAnswerGo, TakeAnswer, SendCrcLow, SendCrcHigh, TakeLastAck, Look, Over}
use Rattle.host_flow.specs.State.{State}

-- the step that takes the answer's bytes
abbrev pub is_answer : Step → Bool
is_answer (TakeGreeting place) = false
is_answer (SendHeader place) = false
is_answer TakeHeaderAck = false
is_answer (SendPayload place) = false
is_answer TakePayloadAck = false
is_answer TakeCrcLow = false
is_answer (TakeCrcHigh low) = false
is_answer SendGo = false
is_answer SendNak = false
is_answer TakeLengthLow = false
is_answer (TakeLengthHigh low) = false
is_answer SendAnswerGo = false
is_answer (TakeAnswer place) = true
is_answer SendCrcLow = false
is_answer SendCrcHigh = false
is_answer TakeLastAck = false
is_answer Look = false
is_answer Over = false

-- of the actions on the way, the last one first: the answer bytes that were taken, in the order in which they came
abbrev pub came_in : List (Event ℕ State) → List ℕ
came_in [] = []
came_in (e ∷ events) = cond (is_answer e.state.step) (came_in events ++ e.view) (came_in events)

-- what was lent when the way to s began
abbrev pub lent_first : List (Event ℕ State) → State → Lent
lent_first [] s = s.lent
lent_first (e ∷ events) s = lent_first events e.state

-- the command stays; answer bytes that came are at the front of the buffer, and its other bytes stay
abbrev pub AnswerCame : List (Event ℕ State) → State → Type 0
AnswerCame events s = let c = lent_first events s in s.lent ≡ lent c.opcode c.payload (laid (came_in events) c.answer)
