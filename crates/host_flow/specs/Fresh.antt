-- A fresh host (rules, 15.1): it starts at the flow's first step with reason 0.
-- Assumes nothing.
use Rattle.std.specs.Prelude.{ℕ}
use Rattle.machine.specs.declared.Record.{Record}
use Rattle.machine.specs.Session.{start_record}
use Rattle.host_command.specs.Exchange.{Lent}
use Rattle.host_flow.specs.declared.step.Step.TheVariants.{TakeGreeting}
use Rattle.host_flow.specs.State.{State, state}

-- the number of the host's kind
abbrev pub kind_number : ℕ
kind_number = 3

abbrev pub fresh_record : Record
fresh_record = start_record kind_number

abbrev pub fresh : Lent → State
fresh c = state (TakeGreeting 0) 0 c
