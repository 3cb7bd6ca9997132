-- How many bytes a receiver sends before it takes one or code runs (rules, 3.4).
-- Assumes nothing.
use Rattle.std.specs.Prelude.{ℕ}
use Rattle.rom_flow.specs.declared.step.Step.{Step}
use Rattle.rom_flow.specs.declared.step.Step.TheVariants.{SendStx, Header, SendAck, TakeCode, SendXor, TakeAck, SendNak, Running}
use Rattle.rom_flow.specs.State.{State}

abbrev pub due_at : Step → ℕ
due_at SendStx = 1
due_at (Header step) = 0
due_at (SendAck total) = 1
due_at (TakeCode total place) = 0
due_at (SendXor total) = 1
due_at (TakeAck total) = 0
due_at SendNak = 2
due_at (Running address) = 0

abbrev pub due : State → ℕ
due s = due_at s.step
