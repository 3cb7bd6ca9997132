-- Figures over the joined line, byte by byte: Version, a Write of two bytes, and three commands that are refused (rules, 15.9).
-- Assumes nothing.
use Rattle.std.specs.Prelude.{ℕ, ◌≡◌, List, [], ◌∷◌, ◌++◌, length, replicate}
use Rattle.memory.specs.Memories.{Memories, memories}
use Rattle.machine.specs.Uncut.{uncut}
use Rattle.uartboot_flow.specs.declared.step.Step.TheVariants.{Header}
use Rattle.uartboot_flow.specs.declared.step.HeaderStep.TheVariants.{TakeSoh}
use Rattle.uartboot_flow.specs.State as device-state
use Rattle.uartboot_flow.specs.Device.{device}
use Rattle.uartboot_flow.specs.Fresh as device-fresh
use Rattle.host_command.specs.Exchange.{Lent, lent}
use Rattle.host_command.specs.Refusal.{refusal_of}
use Rattle.host_flow.specs.declared.step.Step.TheVariants.{Over}
use Rattle.host_flow.specs.State.{State, state}
use Rattle.host_flow.specs.Host.{host}
use Rattle.host_flow.specs.Fresh.{fresh}
use Rattle.joined.specs.Accepted.{Fits}

-- what each side does when it is fed the other's bytes, for a command that the host doesn't refuse and memories of accepted lengths
pub record Figure (c : Lent) (m : Memories) (said heard : List ℕ) (taken : ℕ) (host-end : State) (device-end : device-state.State) : Type 0 where
  pub not_refused : refusal_of c ≡ 0
  pub fitting : Fits m
  pub host_is : uncut host (fresh c) heard ≡ record { replies = said; taken = taken; final = host-end }
  pub device_is : uncut device (device-fresh.fresh m) said ≡ record { replies = heard; taken = length said; final = device-end }

-- a sector of flash that begins with this byte, and a work buffer that begins with these
abbrev pub small : (ram : List ℕ) (flash : ℕ) (work : List ℕ) → Memories
small ram flash work = memories ram (flash ∷ replicate 4095 0xFF) (work ++ replicate 58 0x00)

-- the 7 characters 0.0.0.3, in an answer buffer of 8 bytes
abbrev pub version_text : List ℕ
version_text = 0x30 ∷ 0x2E ∷ 0x30 ∷ 0x2E ∷ 0x30 ∷ 0x2E ∷ 0x33 ∷ []

abbrev pub VersionFigure : Type 0
VersionFigure =
    Figure (lent 0x0B [] (replicate 8 0xEE)) (small (replicate 4 0x00) 0xFF (replicate 7 0x00))
    (0x01 ∷ 0x0B ∷ 0x00 ∷ 0x00 ∷ 0x06 ∷ 0x6E ∷ 0x62 ∷ [])
    (0x02 ∷ 0x01 ∷ 0x00 ∷ 0x03 ∷ 0x06 ∷ 0x07 ∷ 0x00 ∷ (version_text ++ (0x06 ∷ 0x02 ∷ 0x01 ∷ 0x00 ∷ 0x03 ∷ []))) 15
    (state Over 0 (lent 0x0B [] (version_text ++ (0xEE ∷ [])))) (device-state.state (Header TakeSoh) 0 (small (replicate 4 0x00) 0xFF version_text))

-- AA BB to RAM's first bytes
abbrev pub write_payload : List ℕ
write_payload = 0x00 ∷ 0x00 ∷ 0xFC ∷ 0x07 ∷ 0xAA ∷ 0xBB ∷ []

abbrev pub WriteFigure : Type 0
WriteFigure =
    Figure (lent 0x01 write_payload []) (small (replicate 4 0x00) 0xFF (replicate 6 0x00))
    (0x01 ∷ 0x01 ∷ 0x06 ∷ 0x00 ∷ (write_payload ++ (0x06 ∷ [])))
    (0x02 ∷ 0x01 ∷ 0x00 ∷ 0x03 ∷ 0x06 ∷ 0x06 ∷ 0xFA ∷ 0xBF ∷ 0x02 ∷ 0x01 ∷ 0x00 ∷ 0x03 ∷ []) 8
    (state Over 0 (lent 0x01 write_payload [])) (device-state.state (Header TakeSoh) 0 (small (0xAA ∷ 0xBB ∷ 0x00 ∷ 0x00 ∷ []) 0xFF write_payload))

-- a Write that is longer than the work buffer
abbrev pub LongFigure : Type 0
LongFigure =
    Figure (lent 0x01 (replicate 65 0x00) []) (small (replicate 4 0x00) 0xFF (replicate 6 0x00))
    (0x01 ∷ 0x01 ∷ 0x41 ∷ 0x00 ∷ [])
    (0x02 ∷ 0x01 ∷ 0x00 ∷ 0x03 ∷ 0x15 ∷ 0x02 ∷ 0x01 ∷ 0x00 ∷ 0x03 ∷ []) 5
    (state Over 73 (lent 0x01 (replicate 65 0x00) [])) (device-state.state (Header TakeSoh) 13 (small (replicate 4 0x00) 0xFF (replicate 6 0x00)))

-- a Read of no bytes
abbrev pub read_payload : List ℕ
read_payload = 0x00 ∷ 0x00 ∷ 0xFC ∷ 0x07 ∷ 0x00 ∷ 0x00 ∷ []

abbrev pub ReadFigure : Type 0
ReadFigure =
    Figure (lent 0x02 read_payload []) (small (replicate 4 0x00) 0xFF (replicate 6 0x00))
    (0x01 ∷ 0x02 ∷ 0x06 ∷ 0x00 ∷ read_payload)
    (0x02 ∷ 0x01 ∷ 0x00 ∷ 0x03 ∷ 0x06 ∷ 0x15 ∷ 0x02 ∷ 0x01 ∷ 0x00 ∷ 0x03 ∷ []) 6
    (state Over 73 (lent 0x02 read_payload [])) (device-state.state (Header TakeSoh) 15 (small (replicate 4 0x00) 0xFF read_payload))

-- a Direct write of F0 over 0F, with verify: what is stored, 00, is not F0
abbrev pub direct_payload : List ℕ
direct_payload = 0x01 ∷ 0x00 ∷ 0x00 ∷ 0x00 ∷ 0x00 ∷ 0xF0 ∷ []

abbrev pub DirectFigure : Type 0
DirectFigure =
    Figure (lent 0x12 direct_payload []) (small (replicate 4 0x00) 0x0F (replicate 6 0x00))
    (0x01 ∷ 0x12 ∷ 0x06 ∷ 0x00 ∷ (direct_payload ++ (0x06 ∷ [])))
    (0x02 ∷ 0x01 ∷ 0x00 ∷ 0x03 ∷ 0x06 ∷ 0x06 ∷ 0xAF ∷ 0xA4 ∷ 0x15 ∷ 0x02 ∷ 0x01 ∷ 0x00 ∷ 0x03 ∷ []) 9
    (state Over 73 (lent 0x12 direct_payload [])) (device-state.state (Header TakeSoh) 18 (small (replicate 4 0x00) 0x00 direct_payload))
