-- What the parts of the program give: a step and a reason, which with the memories are the state that the flow comes to.
-- Assumes nothing.
use Rattle.std.specs.Prelude.{ℕ, ◌≡◌, List}
use Rattle.machine.specs.Steps.{Sent}
use Rattle.memory.specs.Memories.{Memories, memories}
use Rattle.uartboot_flow.specs.declared.step.Step.{Step}
use Rattle.machine.specs.declared.step.Progress.{Progress}
use Rattle.uartboot_flow.specs.State.{State, state}
use Rattle.uartboot_flow.specs.Device.{device}

abbrev pub progress : Step → (reason : ℕ) → Progress Step
progress step reason = record { step = step; reason = reason }

-- with these memories
abbrev pub state_of : Progress Step → Memories → State
state_of p m = state p.step p.reason m

-- whatever RAM and flash hold, beside this work buffer
pub record Gives (work : List ℕ) (p : Progress Step) (next : Memories → State) : Type 0 where
  pub is : (ram flash : List ℕ) → state_of p (memories ram flash work) ≡ next (memories ram flash work)

-- whatever the memories hold
pub record EndsIn (p : Progress Step) (next : Memories → State) : Type 0 where
  pub is : (m : Memories) → state_of p m ≡ next m

-- one or more sends, whatever RAM and flash hold, beside this work buffer
pub record SentFrom (work : List ℕ) (before after : Memories → State) (j : ℕ) (old : List ℕ) (count : ℕ) (reply : List ℕ) : Type 0 where
  pub is : (ram flash : List ℕ) → Sent device (before (memories ram flash work)) j old count (after (memories ram flash work)) reply
