-- Worked replays (rules, 16.4).
-- Assumes nothing.
use Rattle.std.specs.Prelude.{ℕ, List, [], ◌∷◌, ◌++◌, take, drop}
use Rattle.wire.specs.Length.{bad_work}
use Rattle.memory.specs.Memories.{Memories, memories}
use Rattle.uartboot_flow.specs.Flow.{greeting}
use Rattle.sessions.specs.Fakes.{small}
use Rattle.recording.specs.Form.{cut_short}
use Rattle.recording.specs.Figures.{file}
use Rattle.visit.specs.Compared.{agrees, differs}
use Rattle.visit.specs.Replay.{answer_of, refused_answer, replay_of}
use Rattle.visit.specs.declared.Replayed.{Replayed}

-- the answer, and RAM afterwards
pub record Gave : Type 0 where
  pub answer : Replayed
  pub ram : List ℕ

pub record Figure : Type 0 where
  pub file : List ℕ
  pub lent : Memories
  pub wanted : Gave

-- with memories of the smallest lengths but two bytes of RAM
abbrev pub figure : (file : List ℕ) → Replayed → (ram : List ℕ) → Figure
figure file answer ram = record { file = file; lent = small; wanted = record { answer = answer; ram = ram } }

-- with memories of which none has a length that it may have
abbrev pub unfit : (file : List ℕ) → Replayed → Figure
unfit file answer = record { file = file; lent = memories [] [] []; wanted = record { answer = answer; ram = [] } }

abbrev pub given : Figure → Gave
given f = record { answer = (replay_of f.file f.lent).answer; ram = (replay_of f.file f.lent).memories.ram }

abbrev greets : List ℕ
greets = greeting 0 ∷ greeting 1 ∷ greeting 2 ∷ greeting 3 ∷ []

abbrev none : List ℕ
none = 0 ∷ 0 ∷ []

-- a Write of 11 22 to RAM's first byte, and what the session answers, without the greeting before it
abbrev writes : List ℕ
writes = 0x01 ∷ 0x01 ∷ 0x06 ∷ 0x00 ∷ 0x00 ∷ 0x00 ∷ 0xFC ∷ 0x07 ∷ 0x11 ∷ 0x22 ∷ 0x06 ∷ []

abbrev answers : List ℕ
answers = 0x06 ∷ 0x06 ∷ 0x9D ∷ 0x6F ∷ greets

-- a Run of the code at RAM's first byte
abbrev runs : List ℕ
runs = 0x01 ∷ 0x05 ∷ 0x04 ∷ 0x00 ∷ 0x00 ∷ 0x00 ∷ 0xFC ∷ 0x07 ∷ 0x06 ∷ []

abbrev written : List ℕ
written = 0x11 ∷ 0x22 ∷ []

abbrev pub figures : List Figure
figures =
    -- the greeting: missing, whole, one byte too few, one too many, its last byte changed
    figure (file []) (answer_of (differs 0)) none
    ∷ figure (file (2 ∷ 4 ∷ 0 ∷ greets)) (answer_of agrees) none
    ∷ figure (file (2 ∷ 3 ∷ 0 ∷ greeting 0 ∷ greeting 1 ∷ greeting 2 ∷ [])) (answer_of (differs 3)) none
    ∷ figure (file (2 ∷ 5 ∷ 0 ∷ greets ++ (0x02 ∷ []))) (answer_of (differs 4)) none
    ∷ figure (file (2 ∷ 4 ∷ 0 ∷ greeting 0 ∷ greeting 1 ∷ greeting 2 ∷ 0x04 ∷ [])) (answer_of (differs 3)) none
    -- refused: nothing has changed; lengths come before the file
    ∷ unfit [] (refused_answer bad_work)
    ∷ figure (file (1 ∷ 11 ∷ 0 ∷ writes ++ (1 ∷ []))) (refused_answer cut_short) none
    -- the Write in one entry, and in several with the device's before and between them
    ∷ figure (file (1 ∷ 11 ∷ 0 ∷ writes ++ (2 ∷ 12 ∷ 0 ∷ greets ++ answers))) (answer_of agrees) written
    ∷ figure
    (file (2 ∷ 5 ∷ 0 ∷ greets ++ (0x06 ∷ 1 ∷ 4 ∷ 0 ∷ take 4 writes ++ (1 ∷ 0 ∷ 0 ∷ 2 ∷ 7 ∷ 0 ∷ drop 1 answers ++ (1 ∷ 7 ∷ 0 ∷ drop 4 writes)))))
    (answer_of agrees) written
    -- it is carried out where nothing is recorded of the device, too
    ∷ figure (file (1 ∷ 11 ∷ 0 ∷ writes)) (answer_of (differs 0)) written
    -- a Write that comes after code runs is not taken
    ∷ figure (file (2 ∷ 8 ∷ 0 ∷ greets ++ (0x06 ∷ 0x06 ∷ 0x8B ∷ 0xA2 ∷ 1 ∷ 20 ∷ 0 ∷ runs ++ writes))) (answer_of agrees) none
    ∷ []
