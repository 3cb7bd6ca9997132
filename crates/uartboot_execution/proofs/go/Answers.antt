-- `uartboot_execution::go`: by how the execution ended.
-- Assumes nothing.
use Rattle.uartboot_execution.proofs.go.Goals as goal

pub returns : goal.returns
returns c = rw (← c.execute-ending.ensures) (c.after_execution.ensures.is _)
