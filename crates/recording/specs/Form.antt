-- The form of a recording's file (rules, 16.1): a head, the mark BLG and a version, and then entries, each a kind, a length and bytes. What
-- may be wrong with head and entry (rules, 16.2).
-- Assumes nothing.
use Rattle.std.specs.Prelude.{ℕ, ◌+◌, Bool, false, cond, not, ◌&&◌, ◌||◌, List, [], ◌∷◌, eqb, leb, length, get_or, take, drop, Option, Some, None, Result, Ok, Err}
use Rattle.numbers.specs.Number.{number_at, read_at}
use Rattle.memory.specs.Compare.{is_front}
use Rattle.recording.specs.declared.form.Fault.{Fault}
use Rattle.recording.specs.declared.form.Fault.TheVariants.{BadMark, BadVersion, UnknownKind, CutShort}
use Rattle.recording.specs.declared.form.Kind.{Kind}
use Rattle.recording.specs.declared.form.Kind.TheVariants.{Host, Device}

-- the numbers given
abbrev pub bad_mark : ℕ
bad_mark = 81

abbrev pub bad_version : ℕ
bad_version = 82

abbrev pub unknown_kind : ℕ
unknown_kind = 83

abbrev pub cut_short : ℕ
cut_short = 84

abbrev pub fault_number : Fault → ℕ
fault_number BadMark = bad_mark
fault_number BadVersion = bad_version
fault_number UnknownKind = unknown_kind
fault_number CutShort = cut_short

-- 0 where nothing is wrong
abbrev pub number_of : {A : Type 0} → Result A Fault → ℕ
number_of (Ok there) = 0
number_of (Err fault) = fault_number fault

-- the text BLG
abbrev pub mark : List ℕ
mark = 0x42 ∷ 0x4C ∷ 0x47 ∷ []

-- the version of the form, 2 bytes after the mark
abbrev pub form_version : ℕ
form_version = 1

abbrev pub is_version : Option ℕ → Bool
is_version (Some version) = eqb version form_version
is_version None = false

-- how many bytes the head has
abbrev pub head_length : ℕ
head_length = 5

-- what is wrong with the head, first the mark; 0 where nothing is
unfoldable pub head_fault : (file : List ℕ) → ℕ
head_fault file =
    cond (not (is_front mark file)) bad_mark
    (cond (not (is_version (read_at 2 file 3))) bad_version
    0)

-- the kinds of entries: the host's bytes, the device's bytes
abbrev pub host_kind : ℕ
host_kind = 1

abbrev pub device_kind : ℕ
device_kind = 2

abbrev pub kind_number : Kind → ℕ
kind_number Host = host_kind
kind_number Device = device_kind

-- the kind that a byte says
abbrev pub kind_of : (number : ℕ) → Result Kind Fault
kind_of number = cond (eqb number host_kind) (Ok Host) (cond (eqb number device_kind) (Ok Device) (Err UnknownKind))

abbrev pub is_kind : ℕ → Bool
is_kind kind = eqb kind host_kind || eqb kind device_kind

-- how many bytes an entry has before its own: the kind, and a length of 2 bytes
abbrev pub entry_head : ℕ
entry_head = 3

-- of an entry, with which these bytes begin: its kind, its length, its own bytes, and what follows it
abbrev pub kind_in : List ℕ → ℕ
kind_in bytes = get_or bytes 0 0

unfoldable pub size_in : List ℕ → ℕ
size_in bytes = number_at 2 bytes 1

abbrev pub own_bytes : List ℕ → List ℕ
own_bytes bytes = take (size_in bytes) (drop entry_head bytes)

abbrev pub past_entry : List ℕ → List ℕ
past_entry bytes = drop (entry_head + size_in bytes) bytes

-- its length, and all of its bytes, are there
abbrev pub is_whole : List ℕ → Bool
is_whole bytes = leb entry_head (length bytes) && leb (entry_head + size_in bytes) (length bytes)

-- what is wrong with it, first the kind; 0 where nothing is
unfoldable pub entry_fault : List ℕ → ℕ
entry_fault bytes =
    cond (not (is_kind (kind_in bytes))) unknown_kind
    (cond (not (is_whole bytes)) cut_short
    0)
