-- What a recording says: its entries, or the number of what is wrong first in the file (rules, 2.3 and 16.2). The joined bytes of a kind
-- (rules, 16.3).
-- Assumes nothing.
use Rattle.std.specs.Prelude.{ℕ, zero, suc, cond, List, [], ◌∷◌, ◌++◌, eqb, length, drop}
use Rattle.recording.specs.Form.{head_length, head_fault, kind_in, own_bytes, past_entry, entry_fault}

pub record Entry : Type 0 where
  pub kind : ℕ
  pub bytes : List ℕ

pub data Recording : Type 0 where
  reads : List Entry → Recording
  refused : (number : ℕ) → Recording

-- an entry, and then what follows it
abbrev pub after : Entry → Recording → Recording
after entry (reads entries) = reads (entry ∷ entries)
after entry (refused number) = refused number

-- at most `fuel` entries
unfoldable pub entries_at : (fuel : ℕ) → List ℕ → Recording
entries_at zero bytes = reads []
entries_at (suc fuel) [] = reads []
entries_at (suc fuel) (byte ∷ bytes) =
    let rest = byte ∷ bytes in
    cond (eqb (entry_fault rest) 0)
    (after (record { kind = kind_in rest; bytes = own_bytes rest }) (entries_at fuel (past_entry rest)))
    (refused (entry_fault rest))

-- the entries up to the end; each has a byte or more, so this many suffice
unfoldable pub entries_of : List ℕ → Recording
entries_of bytes = entries_at (length bytes) bytes

unfoldable pub recording_of : (file : List ℕ) → Recording
recording_of file = cond (eqb (head_fault file) 0) (entries_of (drop head_length file)) (refused (head_fault file))

-- the number of what is wrong; 0 where nothing is
abbrev pub fault_of : Recording → ℕ
fault_of (reads entries) = 0
fault_of (refused number) = number

-- the bytes of all entries of a kind, one after the other
abbrev pub joined : (kind : ℕ) → List Entry → List ℕ
joined kind [] = []
joined kind (entry ∷ entries) = cond (eqb entry.kind kind) (entry.bytes ++ joined kind entries) (joined kind entries)

abbrev pub joined_in : (kind : ℕ) → Recording → List ℕ
joined_in kind (reads entries) = joined kind entries
joined_in kind (refused number) = []
