-- What holds of every state that calls can reach.
-- Assumes nothing.
use Rattle.std.specs.Prelude.{ℕ, ◌≤◌, ◌<◌, ◌≡◌, true, List, length}
use Rattle.wire.specs.Length.{is_ram_length}
use Rattle.wire.specs.Unit.{is_in_ram}
use Rattle.rom_flow.specs.declared.kind.Kind.{Kind}
use Rattle.rom_flow.specs.declared.kind.Kind.TheVariants.{P, E}
use Rattle.rom_flow.specs.declared.step.Step.{Step}
use Rattle.rom_flow.specs.declared.step.Step.TheVariants.{SendStx, Header, SendAck, TakeCode, SendXor, TakeAck, SendNak, Running}
use Rattle.rom_flow.specs.declared.step.HeaderStep.{HeaderStep}
use Rattle.rom_flow.specs.declared.step.HeaderStep.TheVariants.{TakeSoh, TakeLow, TakeHigh, TakeExtendedLow, TakeExtendedHigh}
use Rattle.rom_flow.specs.State.{State}

abbrev pub Extends : Kind → Type 0
Extends P = ⊥
Extends E = Unit {0}

-- code of 1 byte or more, and no more than a RAM of `size` bytes
abbrev pub Sized : (size total : ℕ) → Type 0
Sized size total = (0 < total) × (total ≤ size)

abbrev pub SoundHeader : Kind → HeaderStep → Type 0
SoundHeader kind TakeSoh = Unit {0}
SoundHeader kind TakeLow = Unit {0}
SoundHeader kind (TakeHigh low) = Unit {0}
SoundHeader kind TakeExtendedLow = Extends kind
SoundHeader kind (TakeExtendedHigh low) = Extends kind

abbrev pub SoundStep : Kind → (size : ℕ) → Step → Type 0
SoundStep kind size SendStx = Unit {0}
SoundStep kind size (Header step) = SoundHeader kind step
SoundStep kind size (SendAck total) = Sized size total
SoundStep kind size (TakeCode total place) = (place < total) × (total ≤ size)
SoundStep kind size (SendXor total) = Sized size total
SoundStep kind size (TakeAck total) = Sized size total
SoundStep kind size SendNak = Unit {0}
SoundStep kind size (Running address) = is_in_ram address size ≡ true

-- a step to go on from, with this RAM
pub record Ready (kind : Kind) (step : Step) (ram : List ℕ) : Type 0 where
  pub fits : is_ram_length (length ram) ≡ true
  pub step_sound : SoundStep kind (length ram) step

abbrev pub Sound : State → Type 0
Sound s = Ready s.kind s.step s.ram
