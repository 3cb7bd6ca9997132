-- `rom_flow::ask::ask_of`: step by step.
-- Assumes nothing.
use mathlib.Core.Path.{refl}
use Rattle.rom_flow.proofs.ask.ask_of.Goals as goal

pub returns-in-SendStx : goal.returns-in-SendStx
returns-in-SendStx c = rw c.in-SendStx.is (record { is = λ kind reason ram. refl })

pub returns-in-SendAck : goal.returns-in-SendAck
returns-in-SendAck c = rw c.in-SendAck.is (record { is = λ kind reason ram. refl })

pub returns-in-SendNak : goal.returns-in-SendNak
returns-in-SendNak c = rw c.in-SendNak.is (record { is = λ kind reason ram. refl })

pub returns-in-Running : goal.returns-in-Running
returns-in-Running c = rw c.in-Running.is (record { is = λ kind reason ram. refl })
