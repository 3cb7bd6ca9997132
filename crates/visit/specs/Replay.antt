-- A recording replayed (rules, 16.4): its host's bytes go to a fresh uartboot session with the memories as lent, and its device's bytes are
-- compared with what the session's definition replies. Refusals are 1 to 3 for the memories' lengths, and then those of the file (rules, 2.3).
-- Assumes nothing.
use Rattle.std.specs.Prelude.{ℕ, cond, List, eqb}
use Rattle.memory.specs.Memories.{Memories}
use Rattle.uartboot.specs.Session as device
use Rattle.sessions.specs.Kind.{uartboot}
use Rattle.sessions.specs.Definition.{definition}
use Rattle.recording.specs.Form.{host_kind, device_kind}
use Rattle.recording.specs.Recording.{Recording, reads, refused, recording_of, joined}
use Rattle.visit.specs.Compared.{Verdict, agrees, differs, compared}
use Rattle.visit.specs.declared.Replayed.{Replayed}

-- the answer: equal 1 and place 0; equal 0 and the place of the first difference; the number of a refusal and zeros
abbrev pub answer_of : Verdict → Replayed
answer_of agrees = record { number = 0; equal = 1; place = 0 }
answer_of (differs place) = record { number = 0; equal = 0; place = place }

abbrev pub refused_answer : (number : ℕ) → Replayed
refused_answer number = record { number = number; equal = 0; place = 0 }

-- the answer, and the memories as they are left
pub record Replay : Type 0 where
  pub answer : Replayed
  pub memories : Memories

abbrev pub replayed : Replayed → Memories → Replay
replayed answer m = record { answer = answer; memories = m }

-- the memories end as the definition's, whatever the verdict; a refused file changes nothing
abbrev pub played : Recording → Memories → Replay
played (refused number) m = replayed (refused_answer number) m
played (reads entries) m =
    let d = definition uartboot m (joined host_kind entries) in
    replayed (answer_of (compared (joined device_kind entries) d.replies)) d.memories

-- lengths first, then the file
unfoldable pub replay_of : (file : List ℕ) → Memories → Replay
replay_of file m =
    cond (eqb ((device.uartboot).refusal m) 0)
    (played (recording_of file) m)
    (replayed (refused_answer ((device.uartboot).refusal m)) m)
