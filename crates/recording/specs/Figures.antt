-- Worked files (rules, 16.2): what is wrong with them, and the joined bytes of both kinds.
-- Assumes nothing.
use Rattle.std.specs.Prelude.{ℕ, List, [], ◌∷◌, replicate}
use Rattle.recording.specs.Form.{host_kind, device_kind, bad_mark, bad_version, unknown_kind, cut_short}
use Rattle.recording.specs.Recording.{Recording, fault_of, joined_in, recording_of}

-- the number of what is wrong, and the joined bytes of host and device
pub record Said : Type 0 where
  pub fault : ℕ
  pub host : List ℕ
  pub device : List ℕ

abbrev pub said : (fault : ℕ) (host device : List ℕ) → Said
said fault host device = record { fault = fault; host = host; device = device }

abbrev pub wrong : (number : ℕ) → Said
wrong number = said number [] []

abbrev pub said_by : Recording → Said
said_by r = said (fault_of r) (joined_in host_kind r) (joined_in device_kind r)

pub record Figure : Type 0 where
  pub file : List ℕ
  pub wanted : Said

abbrev pub figure : (file : List ℕ) → Said → Figure
figure file wanted = record { file = file; wanted = wanted }

abbrev pub given : Figure → Said
given f = said_by (recording_of f.file)

-- a file with these entries
abbrev pub file : (entries : List ℕ) → List ℕ
file entries = 0x42 ∷ 0x4C ∷ 0x47 ∷ 1 ∷ 0 ∷ entries

abbrev pub figures : List Figure
figures =
    -- the mark, wrong or cut short, before the version
    figure [] (wrong bad_mark)
    ∷ figure (0x42 ∷ 0x4C ∷ []) (wrong bad_mark)
    ∷ figure (0x42 ∷ 0x4C ∷ 0x48 ∷ 2 ∷ 0 ∷ []) (wrong bad_mark)
    -- the version, cut short, wrong in its low or in its high byte, before the entries
    ∷ figure (0x42 ∷ 0x4C ∷ 0x47 ∷ []) (wrong bad_version)
    ∷ figure (0x42 ∷ 0x4C ∷ 0x47 ∷ 1 ∷ []) (wrong bad_version)
    ∷ figure (0x42 ∷ 0x4C ∷ 0x47 ∷ 2 ∷ 0 ∷ 3 ∷ []) (wrong bad_version)
    ∷ figure (0x42 ∷ 0x4C ∷ 0x47 ∷ 1 ∷ 1 ∷ []) (wrong bad_version)
    -- no entries, empty ones, and those of one kind joined
    ∷ figure (file []) (said 0 [] [])
    ∷ figure (file (1 ∷ 0 ∷ 0 ∷ 2 ∷ 0 ∷ 0 ∷ [])) (said 0 [] [])
    ∷ figure (file (1 ∷ 1 ∷ 0 ∷ 7 ∷ 2 ∷ 2 ∷ 0 ∷ 8 ∷ 9 ∷ 1 ∷ 2 ∷ 0 ∷ 5 ∷ 6 ∷ [])) (said 0 (7 ∷ 5 ∷ 6 ∷ []) (8 ∷ 9 ∷ []))
    -- a length of 256
    ∷ figure (file (2 ∷ 0 ∷ 1 ∷ replicate 256 4)) (said 0 [] (replicate 256 4))
    -- unknown kinds, also of an entry that is cut short
    ∷ figure (file (0 ∷ 0 ∷ 0 ∷ [])) (wrong unknown_kind)
    ∷ figure (file (1 ∷ 1 ∷ 0 ∷ 7 ∷ 3 ∷ [])) (wrong unknown_kind)
    -- an entry that is cut short, in its length and in its bytes
    ∷ figure (file (1 ∷ [])) (wrong cut_short)
    ∷ figure (file (1 ∷ 1 ∷ [])) (wrong cut_short)
    ∷ figure (file (2 ∷ 0 ∷ 0 ∷ 1 ∷ 2 ∷ 0 ∷ 7 ∷ [])) (wrong cut_short)
    -- what comes first in the file; an entry's bytes are no entries
    ∷ figure (file (3 ∷ 0 ∷ 0 ∷ 1 ∷ [])) (wrong unknown_kind)
    ∷ figure (file (1 ∷ 9 ∷ 0 ∷ 3 ∷ 0 ∷ 0 ∷ [])) (wrong cut_short)
    ∷ figure (file (1 ∷ 1 ∷ 0 ∷ 3 ∷ [])) (said 0 (3 ∷ []) [])
    ∷ []
