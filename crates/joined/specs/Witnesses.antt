-- With memories of accepted lengths there are commands of each kind that a session accepts, and some that it refuses in each place
-- (rules, 15.9).
-- Assumes nothing.
use Rattle.std.specs.Prelude.{ℕ, ◌≤◌, ◌<◌, ◌≡◌, List, [], ◌∷◌, length, replicate}
use Rattle.memory.specs.Memories.{Memories}
use Rattle.opcodes.specs.declared.Opcode.{Opcode}
use Rattle.opcodes.specs.declared.Opcode.TheVariants.{Write, Read, Copy, Erase, Run, ReadQspi, Version, ChipErase, DirectWrite}
use Rattle.opcodes.specs.Opcode.{opcode_number}
use Rattle.command_execution.specs.declared.Ending.TheVariants.{Failed}
use Rattle.command_execution.specs.Execution.{verify_differs}
use Rattle.host_command.specs.Exchange.{lent}
use Rattle.host_command.specs.Refusal.{refusal_of}
use Rattle.joined.specs.Accepted.{against, effect, Fits, Passes, Accepted}
use Rattle.joined.specs.Figures.{small, write_payload, read_payload, direct_payload}

-- 2 bytes of RAM, a sector of flash that begins with this byte, 64 bytes of work buffer
abbrev pub sample : (flash : ℕ) → Memories
sample flash = small (replicate 2 0x00) flash (replicate 6 0x00)

-- the host doesn't refuse the command, and the session accepts it
pub record BothAccept (opcode : Opcode) (payload answer : List ℕ) : Type 0 where
  pub not_refused : refusal_of (lent (opcode_number opcode) payload answer) ≡ 0
  pub accepted : Accepted opcode payload (sample 0xFF)

pub record SomeAccepted : Type 0 where
  pub write_accepted : BothAccept Write write_payload []
  -- RAM's 2 bytes
  pub read_accepted : BothAccept Read (0x00 ∷ 0x00 ∷ 0xFC ∷ 0x07 ∷ 0x02 ∷ 0x00 ∷ []) (replicate 2 0x00)
  -- RAM's 2 bytes to flash's first ones
  pub copy_accepted : BothAccept Copy (0x00 ∷ 0x00 ∷ 0xFC ∷ 0x07 ∷ 0x02 ∷ 0x00 ∷ 0x00 ∷ 0x00 ∷ 0x00 ∷ 0x00 ∷ []) []
  -- flash's last byte, and so its sector
  pub erase_accepted : BothAccept Erase (0xFF ∷ 0x0F ∷ 0x00 ∷ 0x00 ∷ 0x01 ∷ 0x00 ∷ 0x00 ∷ 0x00 ∷ []) []
  -- at RAM's first byte
  pub run_accepted : BothAccept Run (0x00 ∷ 0x00 ∷ 0xFC ∷ 0x07 ∷ []) []
  -- flash's last 2 bytes
  pub read_qspi_accepted : BothAccept ReadQspi (0xFE ∷ 0x0F ∷ 0x00 ∷ 0x00 ∷ 0x02 ∷ 0x00 ∷ []) (replicate 2 0x00)
  pub version_accepted : BothAccept Version [] (replicate 7 0x00)
  pub chip_erase_accepted : BothAccept ChipErase [] []
  -- F0 over FF, with verify
  pub direct_write_accepted : BothAccept DirectWrite direct_payload []

-- a payload of 65 bytes
abbrev pub too_much : List ℕ
too_much = replicate 65 0x00

pub record SomeRefused : Type 0 where
  pub fitting : Fits (sample 0xFF)
  -- a Write of more than the work buffer holds, and what HeaderRefused asks
  pub long_not_refused : refusal_of (lent (opcode_number Write) too_much []) ≡ 0
  pub long : length (sample 0xFF).work < length too_much
  -- a Read of no bytes, and what PayloadRefused asks
  pub empty_not_refused : refusal_of (lent (opcode_number Read) read_payload []) ≡ 0
  pub empty_in_work : length read_payload ≤ length (sample 0xFF).work
  pub empty_fails : against Read read_payload (sample 0xFF) ≡ 0 → ⊥
  -- F0 over 0F, with verify, and what NotVerified asks
  pub direct_not_refused : refusal_of (lent (opcode_number DirectWrite) direct_payload []) ≡ 0
  pub direct_passes : Passes DirectWrite direct_payload (sample 0x0F)
  pub direct_differs : (effect DirectWrite direct_payload (sample 0x0F)).ending ≡ Failed verify_differs
