-- Worked trays (rules, 8.4): what the definition gives for a list of fields and room.
-- Assumes nothing.
use Rattle.std.specs.Prelude.{ℕ, ◌-◌, List, [], ◌∷◌, ◌++◌, length, replicate}
use Rattle.version.specs.Text.{field_length}
use Rattle.tray.specs.Tray.{Tray, tray, tray_of, bad_tray, short_ranks}

pub record Figure : Type 0 where
  pub bytes : List ℕ
  pub ranks : List ℕ
  pub wanted : Tray

abbrev pub figure : (bytes ranks : List ℕ) → Tray → Figure
figure bytes ranks wanted = record { bytes = bytes; ranks = ranks; wanted = wanted }

abbrev pub given : Figure → Tray
given f = tray_of f.bytes f.ranks

-- a field with a text
abbrev field : (text : List ℕ) → List ℕ
field text = text ++ replicate (field_length - length text) 0

-- 1.10, 1.9 and the malformed 01.2
abbrev newer : List ℕ
newer = field (0x31 ∷ 0x2E ∷ 0x31 ∷ 0x30 ∷ [])

abbrev older : List ℕ
older = field (0x31 ∷ 0x2E ∷ 0x39 ∷ [])

abbrev malformed : List ℕ
malformed = field (0x30 ∷ 0x31 ∷ 0x2E ∷ 0x32 ∷ [])

-- the entries of the three
abbrev three : List ℕ
three =
    1 ∷ 10 ∷ 0 ∷ 0 ∷ 0 ∷
    0 ∷ 0 ∷ 0 ∷ 0 ∷ 61 ∷
    1 ∷ 9 ∷ 0 ∷ 0 ∷ 0 ∷ []

-- room of so many numbers
abbrev room : (count : ℕ) → List ℕ
room count = replicate count 7

abbrev pub figures : List Figure
figures =
    -- a malformed field does not stop the list; the room has exactly so many numbers, more, or one too few
    figure (newer ++ (malformed ++ older)) (room (length three)) (tray 0 three)
    ∷ figure (newer ++ (malformed ++ older)) (room (length three) ++ (8 ∷ 9 ∷ [])) (tray 0 (three ++ (8 ∷ 9 ∷ [])))
    ∷ figure (newer ++ (malformed ++ older)) (room (length three - 1)) (tray short_ranks (room (length three - 1)))
    -- no field: nothing is written, with room or without
    ∷ figure [] [] (tray 0 [])
    ∷ figure [] (room 3) (tray 0 (room 3))
    -- 15 and 17 bytes are refused, the latter before the room is looked at
    ∷ figure (replicate 15 0x31) [] (tray bad_tray [])
    ∷ figure (older ++ (0x31 ∷ [])) (room 9) (tray bad_tray (room 9))
    ∷ figure (older ++ (0x31 ∷ [])) [] (tray bad_tray [])
    ∷ figure older [] (tray short_ranks [])
    -- so are 1,025 fields; with 1,024 the room decides
    ∷ figure (replicate 16400 0x31) (room 2) (tray bad_tray (room 2))
    ∷ figure (replicate 16384 0x31) (room 2) (tray short_ranks (room 2))
    ∷ []
