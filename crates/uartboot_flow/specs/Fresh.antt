-- A fresh session (rules, 3.1): it starts at the flow's first step with last reason 0.
-- Assumes nothing.
use Rattle.std.specs.Prelude.{ℕ}
use Rattle.machine.specs.declared.Record.{Record}
use Rattle.machine.specs.Session.{start_record}
use Rattle.memory.specs.Memories.{Memories}
use Rattle.uartboot_flow.specs.State.{State, state}
use Rattle.uartboot_flow.specs.Flow.{first}

-- the number of the session's kind (rules, 6.10)
abbrev pub kind_number : ℕ
kind_number = 2

abbrev pub fresh_record : Record
fresh_record = start_record kind_number

abbrev pub fresh : Memories → State
fresh m = state first 0 m
