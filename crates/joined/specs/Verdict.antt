-- All that is claimed of the joined line: a command that the host doesn't refuse is accepted by a fresh session with memories of accepted
-- lengths, or refused in one of three places, and what then follows (rules, 15.9).
-- Assumes nothing.
use Rattle.std.specs.Prelude.{ℕ, ◌≤◌, ◌<◌, ◌≡◌, List, length}
use Rattle.memory.specs.Memories.{Memories}
use Rattle.opcodes.specs.declared.Opcode.{Opcode}
use Rattle.opcodes.specs.Opcode.{opcode_number}
use Rattle.command_execution.specs.declared.Ending.TheVariants.{Failed}
use Rattle.command_execution.specs.Execution.{verify_differs}
use Rattle.host_command.specs.Exchange.{lent}
use Rattle.host_command.specs.Refusal.{refusal_of}
use Rattle.joined.specs.Accepted.{against, effect, Fits, Passes, Accepted}
use Rattle.joined.specs.Line.{Line}
use Rattle.joined.specs.Refused.{TooLong, NotAllowed, Differs}

pub data Verdict (opcode : Opcode) (payload answer : List ℕ) (m : Memories) : Type 0 where
  accepted : Accepted opcode payload m → Line opcode payload answer m → Verdict opcode payload answer m
  too_long : length m.work < length payload → TooLong opcode payload answer m → Verdict opcode payload answer m
  not_allowed : length payload ≤ length m.work → (against opcode payload m ≡ 0 → ⊥) → NotAllowed opcode payload answer m → Verdict opcode payload answer m
  differs : Passes opcode payload m → (effect opcode payload m).ending ≡ Failed verify_differs → Differs opcode payload answer m → Verdict opcode payload answer m

abbrev pub EveryVerdict : Type 0
EveryVerdict =
    (opcode : Opcode) (payload answer : List ℕ) (m : Memories) → refusal_of (lent (opcode_number opcode) payload answer) ≡ 0 → Fits m →
    Verdict opcode payload answer m
