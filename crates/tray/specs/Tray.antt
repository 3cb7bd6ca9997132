-- A tray of version fields, ranked in one call (rules, 8.4), and when it is refused (rules, 2.3).
-- Assumes nothing.
use Rattle.std.specs.Prelude.{ℕ, zero, suc, ◌/◌, ◌%◌, List, [], ◌∷◌, ◌++◌, map, Bool, cond, not, ◌&&◌, eqb, leb, ltb, length, take, drop, Result, Ok, Err}
use Rattle.memory.specs.Store.{laid}
use Rattle.version.specs.Text.{field_length}
use Rattle.version.specs.Rank.{rank_of}
use Rattle.tray.specs.declared.TrayRefusal.{TrayRefusal}
use Rattle.tray.specs.declared.TrayRefusal.TheVariants.{BadTray, ShortRanks}

-- how many fields a list has
abbrev pub field_count : (bytes : List ℕ) → ℕ
field_count bytes = length bytes / field_length

-- its fields, one after the other
abbrev pub fields_of : (count : ℕ) (bytes : List ℕ) → List (List ℕ)
fields_of zero bytes = []
fields_of (suc count) bytes = take field_length bytes ∷ fields_of count (drop field_length bytes)

-- a field's entry: its rank, and then the number that it gets alone, 0 or 61
unfoldable pub entry_of : (field : List ℕ) → List ℕ
entry_of field = (rank_of field).rank ++ (rank_of field).number ∷ []

abbrev pub in_a_row : List (List ℕ) → List ℕ
in_a_row [] = []
in_a_row (entry ∷ entries) = entry ++ in_a_row entries

-- the entries of a list of fields
unfoldable pub entries_of : (bytes : List ℕ) → List ℕ
entries_of bytes = in_a_row (map entry_of (fields_of (field_count bytes) bytes))

-- how many fields a tray has at most
abbrev pub most_fields : ℕ
most_fields = 1024

-- whole fields, and not too many
unfoldable pub is_tray : (bytes : List ℕ) → Bool
is_tray bytes = eqb (length bytes % field_length) 0 && leb (field_count bytes) most_fields

-- the numbers given for a list that is no tray, and for room that is shorter than the entries
abbrev pub bad_tray : ℕ
bad_tray = 64

abbrev pub short_ranks : ℕ
short_ranks = 65

-- the number of each refusal, and 0 for none
abbrev pub refusal_number : TrayRefusal → ℕ
refusal_number BadTray = bad_tray
refusal_number ShortRanks = short_ranks

abbrev pub number_of : Result (Unit {0}) TrayRefusal → ℕ
number_of (Ok done) = 0
number_of (Err refusal) = refusal_number refusal

-- what is given back, and the room afterwards
pub record Tray : Type 0 where
  pub number : ℕ
  pub ranks : List ℕ

abbrev pub tray : (number : ℕ) (ranks : List ℕ) → Tray
tray number ranks = record { number = number; ranks = ranks }

abbrev pub refusal_of : (bytes ranks : List ℕ) → ℕ
refusal_of bytes ranks = cond (not (is_tray bytes)) bad_tray (cond (ltb (length ranks) (length (entries_of bytes))) short_ranks 0)

-- refused, the room is untouched; else it begins with the entries, and its numbers after them stay
unfoldable pub tray_of : (bytes ranks : List ℕ) → Tray
tray_of bytes ranks = tray (refusal_of bytes ranks) (cond (eqb (refusal_of bytes ranks) 0) (laid (entries_of bytes) ranks) ranks)
