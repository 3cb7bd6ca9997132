-- What a command may rely on once its checks passed.
-- Assumes nothing.
use Prim.Native.Nat.{ℕ, ◌≤◌}
use Rattle.wire.specs.Length.{largest_work}
use Rattle.wire.proofs.Lengths.{work-bounds}
use Rattle.memory.proofs.Stores.{part_length}
use Rattle.command.specs.declared.payload.Command.{Command}
use Rattle.command.specs.Check.{checks_of}
use Rattle.command_execution.specs.Execution.{data_end, Allowed}
use Rattle.command_execution.proofs.Checks.{Passed, allowed}

pub record Ready (command : Command) (ram flash work : ℕ) : Type 0 where
  pub passed : Passed ram flash work (checks_of command)
  pub data_in : data_end command ≤ work
  pub short : work ≤ largest_work

pub ready : (command : Command) (ram flash work : ℕ) → Allowed command ram flash work → Ready command ram flash work
ready command ram flash work h =
    record {
      passed = allowed ram flash work (checks_of command) h.passes;
      data_in = h.data_in;
      short = (work-bounds work h.fitting.work_length).1;
    }

pub ruleset readiness = (ready, part_length)
