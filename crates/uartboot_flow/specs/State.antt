-- The state of a uartboot session: the flow's step, the last reason and the memories.
-- Assumes nothing.
use Rattle.std.specs.Prelude.{ℕ}
use Rattle.memory.specs.Memories.{Memories}
use Rattle.uartboot_flow.specs.declared.step.Step.{Step}

pub record State : Type 0 where
  pub step : Step
  pub reason : ℕ
  pub mem : Memories

abbrev pub state : Step → (reason : ℕ) → Memories → State
state step reason m = record { step = step; reason = reason; mem = m }
