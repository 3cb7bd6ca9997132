-- Where a receiver takes the byte for its checksum (rules, 3.7): after the XOR.
-- Assumes nothing.
use Rattle.std.specs.Prelude.{Bool, true, false}
use Rattle.rom_flow.specs.declared.step.Step.{Step}
use Rattle.rom_flow.specs.declared.step.Step.TheVariants.{SendStx, Header, SendAck, TakeCode, SendXor, TakeAck, SendNak, Running}
use Rattle.rom_flow.specs.State.{State}

-- the step that takes the byte after the XOR
abbrev pub awaits_ack : Step → Bool
awaits_ack SendStx = false
awaits_ack (Header step) = false
awaits_ack (SendAck total) = false
awaits_ack (TakeCode total place) = false
awaits_ack (SendXor total) = false
awaits_ack (TakeAck total) = true
awaits_ack SendNak = false
awaits_ack (Running address) = false

abbrev pub awaits : State → Bool
awaits s = awaits_ack s.step
