-- The uartboot session as a machine.
-- Assumes nothing.
use Rattle.std.specs.Prelude.{ℕ}
use Rattle.machine.specs.Machine.{Machine}
use Rattle.machine.specs.Does.{line_of}
use Rattle.uartboot_flow.specs.State.{State}
use Rattle.uartboot_flow.specs.Flow.{does}
use Rattle.uartboot_flow.specs.Due.{due}

abbrev pub device : Machine ℕ State
device = line_of does due
