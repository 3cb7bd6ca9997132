-- What each field of a tray gets (rules, 8.4): what it gives alone, at its own place of the room.
-- Assumes nothing.
use Rattle.std.specs.Prelude.{ℕ, ◌+◌, ◌*◌, ◌<◌, ◌≡◌, List, drop}
use Rattle.memory.specs.Store.{part_of}
use Rattle.version.specs.Text.{field_length}
use Rattle.version.specs.Rank.{rank_length}
use Rattle.tray.specs.Tray.{field_count, entry_of, tray_of}

-- how many numbers an entry has
abbrev pub entry_length : ℕ
entry_length = rank_length + 1

-- the field at a place of a list, and the entry at a place of the room
abbrev pub field_at : (place : ℕ) (bytes : List ℕ) → List ℕ
field_at place bytes = part_of (place * field_length) field_length bytes

abbrev pub entry_at : (place : ℕ) (ranks : List ℕ) → List ℕ
entry_at place ranks = part_of (place * entry_length) entry_length ranks

-- every entry is its field's own, and the numbers past the last entry stay
pub record AsAlone (bytes before after : List ℕ) : Type 0 where
  pub entry_is : (place : ℕ) → place < field_count bytes → entry_at place after ≡ entry_of (field_at place bytes)
  pub rest_stays : drop (field_count bytes * entry_length) after ≡ drop (field_count bytes * entry_length) before

-- so it is of every tray that is not refused
abbrev pub EachAsAlone : Type 0
EachAsAlone = (bytes ranks : List ℕ) → (tray_of bytes ranks).number ≡ 0 → AsAlone bytes ranks (tray_of bytes ranks).ranks
