-- The host and uartboot joined by a clean line, both fresh: what they say to each other, and where they end (rules, 15.9).
-- Assumes nothing.
use Rattle.std.specs.Prelude.{ℕ, ◌≡◌, List, ◌++◌, length}
use Rattle.memory.specs.Memories.{Memories}
use Rattle.machine.specs.Uncut.{uncut}
use Rattle.uartboot_flow.specs.State as device-state
use Rattle.uartboot_flow.specs.Device.{device}
use Rattle.uartboot_flow.specs.Fresh as device-fresh
use Rattle.uartboot.specs.Session.{uartboot}
use Rattle.joining.specs.CleanLine.{CleanLine}
use Rattle.host_command.specs.Exchange.{Lent}
use Rattle.host_flow.specs.State.{State}
use Rattle.host_flow.specs.Host.{host}
use Rattle.host_flow.specs.Fresh.{fresh}
use Rattle.host.specs.Session.{host_session}
use Rattle.joined.specs.Executions.{Executions}

-- the host sends h, takes `used` and leaves `left`; the device takes h, sends `used` and `left` and executes `count` commands; and both
-- end so
pub record Closed (c : Lent) (m : Memories) (h used left : List ℕ) (host-end : State) (device-end : device-state.State) (count : ℕ) : Type 0 where
  pub host_is : uncut host (fresh c) (used ++ left) ≡ record { replies = h; taken = length used; final = host-end }
  pub device_is : uncut device (device-fresh.fresh m) h ≡ record { replies = used ++ left; taken = length h; final = device-end }
  pub executions : Executions m h count
  -- nothing else closes; every schedule, and every list of calls on both sessions, keeps to these bytes, with each side so once it is
  -- over, and a diligent one ends there
  pub line : CleanLine host_session uartboot (fresh c) (device-fresh.fresh m) h (used ++ left)
