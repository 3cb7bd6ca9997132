-- A recording played to its end: what is known before, what is known then, and the answer.
-- Assumes nothing.
use Rattle.std.specs.Prelude.{ℕ, ◌≤◌, ◌≡◌, List, [], length, drop, Result, IfOk}
use Rattle.memory.specs.Memories.{Memories}
use Rattle.uartboot.specs.Session as device
use Rattle.sessions.specs.Kind.{uartboot}
use Rattle.sessions.specs.Definition.{definition}
use Rattle.recording.specs.Form.{host_kind, device_kind, head_length}
use Rattle.recording.specs.Left.{left_from, Readable}
use Rattle.visit.specs.Compared.{compared}
use Rattle.visit.specs.Held.{IsHeld, verdict_of}
use Rattle.visit.specs.Replay.{answer_of}
use Rattle.visit.specs.declared.held.Held.{Held}
use Rattle.visit.specs.declared.Replayed.{Replayed}

-- neither the lengths nor the file are refused
pub record Playable (file : List ℕ) (m : Memories) : Type 0 where
  pub inside : head_length ≤ length file
  pub readable : Readable (drop head_length file)
  pub fits : (device.uartboot).refusal m ≡ 0

-- the comparison has come to the verdict, and the memories are the definition's
pub record Played (file : List ℕ) (m : Memories) (held : Result Held ℕ) (left : Memories) : Type 0 where
  pub is_held : IfOk held IsHeld
  pub verdict : compared (left_from device_kind (drop head_length file)) (definition uartboot m (left_from host_kind (drop head_length file))).replies ≡ verdict_of held []
  pub memories_are : left ≡ (definition uartboot m (left_from host_kind (drop head_length file))).memories

-- the answer where no more replies come
abbrev pub Answers : Result Held ℕ → Replayed → Type 0
Answers held r = IfOk held IsHeld → r ≡ answer_of (verdict_of held [])
