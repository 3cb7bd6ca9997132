-- What the parts of the program give: a step and a reason, which with what is lent are the state that the flow comes to.
-- Assumes nothing.
use Rattle.std.specs.Prelude.{ℕ, ◌≡◌, cond, List, eqb}
use Rattle.wire.specs.Line.{stx}
use Rattle.machine.specs.Steps.{Taken, Sent}
use Rattle.host_command.specs.Exchange.{Lent, lent, awaited}
use Rattle.host_flow.specs.declared.step.Step.{Step}
use Rattle.host_flow.specs.declared.step.Step.TheVariants.{SendPayload, TakeAnswer, Over}
use Rattle.machine.specs.declared.step.Progress.{Progress}
use Rattle.machine.specs.declared.step.Moved.{Moved}
use Rattle.host_flow.specs.State.{State, state}
use Rattle.host_flow.specs.Flow.{expected}
use Rattle.host_flow.specs.Host.{host}

abbrev pub progress : Step → (reason : ℕ) → Progress Step
progress step reason = record { step = step; reason = reason }

-- whatever is lent
pub record EndsIn (p : Progress Step) (next : Lent → State) : Type 0 where
  pub is : (c : Lent) → state p.step p.reason c ≡ next c

-- whatever is lent beside this payload
pub record GivesBeside (payload : List ℕ) (p : Progress Step) (next : Lent → State) : Type 0 where
  pub is : (opcode : ℕ) (answer : List ℕ) → state p.step p.reason (lent opcode payload answer) ≡ next (lent opcode payload answer)

-- whatever is lent with an answer of this length to come
pub record GivesAwaiting (size : ℕ) (p : Progress Step) (next : Lent → State) : Type 0 where
  pub is : (c : Lent) → awaited c ≡ size → state p.step p.reason c ≡ next c

-- payload bytes were sent, whatever is lent beside them
pub record PayloadSent (place reason : ℕ) (payload : List ℕ) (j : ℕ) (old : List ℕ) (moved : Moved Step) (output : List ℕ) : Type 0 where
  pub is : (opcode : ℕ) (answer : List ℕ) →
      Sent host (state (SendPayload place) reason (lent opcode payload answer)) j old moved.count (state moved.step moved.reason (lent opcode payload answer)) output

-- answer bytes were taken, and a CRC was sent, whatever command an answer of this length belongs to
pub record AnswerTaken (size place reason : ℕ) (input : List ℕ) (i : ℕ) (answer : List ℕ) (moved : Moved Step) (answer' : List ℕ) : Type 0 where
  pub is : (opcode : ℕ) (payload : List ℕ) → awaited (lent opcode payload answer) ≡ size →
      Taken host input i (state (TakeAnswer place) reason (lent opcode payload answer)) moved.count (state moved.step moved.reason (lent opcode payload answer'))

pub record CrcSent (step : Step) (size reason : ℕ) (answer : List ℕ) (j : ℕ) (old : List ℕ) (moved : Moved Step) (output : List ℕ) : Type 0 where
  pub is : (opcode : ℕ) (payload : List ℕ) → awaited (lent opcode payload answer) ≡ size →
      Sent host (state step reason (lent opcode payload answer)) j old moved.count (state moved.step moved.reason (lent opcode payload answer)) output

-- the next byte was looked at, whatever is lent
pub record Looked (reason byte : ℕ) (moved : Moved Step) : Type 0 where
  pub over : moved.step ≡ Over
  pub is : (c : Lent) → state moved.step moved.reason c ≡ expected reason c stx byte Over
  pub count_is : moved.count ≡ cond (eqb byte stx) 0 1
