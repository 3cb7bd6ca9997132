-- The state of a receiver: its kind, the flow's step, the last reason and the RAM.
-- Assumes nothing.
use Rattle.std.specs.Prelude.{ℕ, List}
use Rattle.rom_flow.specs.declared.kind.Kind.{Kind}
use Rattle.rom_flow.specs.declared.step.Step.{Step}

pub record State : Type 0 where
  pub kind : Kind
  pub step : Step
  pub reason : ℕ
  pub ram : List ℕ

abbrev pub state : Kind → Step → (reason : ℕ) (ram : List ℕ) → State
state kind step reason ram = record { kind = kind; step = step; reason = reason; ram = ram }
