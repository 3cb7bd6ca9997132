-- The state of a host: the flow's step, the reason and what is lent.
-- Assumes nothing.
use Rattle.std.specs.Prelude.{ℕ}
use Rattle.host_command.specs.Exchange.{Lent}
use Rattle.host_flow.specs.declared.step.Step.{Step}

pub record State : Type 0 where
  pub step : Step
  pub reason : ℕ
  pub lent : Lent

abbrev pub state : Step → (reason : ℕ) → Lent → State
state step reason c = record { step = step; reason = reason; lent = c }
