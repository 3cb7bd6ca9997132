-- The receiver as a machine.
-- Assumes nothing.
use Rattle.std.specs.Prelude.{ℕ}
use Rattle.machine.specs.Machine.{Machine}
use Rattle.machine.specs.Does.{line_of}
use Rattle.rom_flow.specs.State.{State}
use Rattle.rom_flow.specs.Flow.{does}
use Rattle.rom_flow.specs.Due.{due}

abbrev pub receiver : Machine ℕ State
receiver = line_of does due
