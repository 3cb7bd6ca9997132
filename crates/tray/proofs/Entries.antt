-- The entries of a tray: how long they are, and one more.
-- Assumes nothing.
use Prim.Native.Nat.{ℕ, zero, suc, ◌+◌, ◌-◌, ◌*◌, ◌<◌, ◌≤◌}
use mathlib.Core.Path.{◌≡◌, refl, sym, ◌∙◌}
use mathlib.Core.List.{List, ◌++◌, map, append_assoc, append-nil}
use native.Mathlib.Omega.{arith}
use lib.ListN.{length, get_or, take, drop, length-append}
use lib.Seq.{drop-drop}
use borrow.Rule.Slice.PartMut.{mid_of, put_mid}
use Rattle.std.specs.Simd.{first_chunks}
use Rattle.memory.specs.Store.{laid}
use Rattle.memory.proofs.Stores.{laid-behind}
use Rattle.version.specs.Text.{field_length}
use Rattle.version.proofs.Ranks.{rank-length}
use Rattle.tray.specs.Tray.{field_count, fields_of, entry_of, in_a_row, entries_of}
use Rattle.tray.specs.Entry.{entry_length, field_at}

-- the entries of the first fields
abbrev pub first_entries : (count : ℕ) (bytes : List ℕ) → List ℕ
first_entries count bytes = in_a_row (map entry_of (fields_of count bytes))

pub entry-length : (field : List ℕ) → length (entry_of field) ≡ entry_length
unfolding entry_of
entry-length field = rw (length-append, rank-length field)

pub first-length : (count : ℕ) (bytes : List ℕ) → length (first_entries count bytes) ≡ count * entry_length
first-length zero bytes = refl
first-length (suc count) bytes =
    let field = take field_length bytes in
    let rest = drop field_length bytes in
    let parted : length (first_entries (suc count) bytes) ≡ length (entry_of field) + length (first_entries count rest)
    = length-append (entry_of field) (first_entries count rest) in
    omega (arith, parted, entry-length field, first-length count rest)

pub first_more : (count : ℕ) (bytes : List ℕ) → first_entries (suc count) bytes ≡ first_entries count bytes ++ entry_of (field_at count bytes)
first_more zero bytes = append-nil (entry_of (take field_length bytes))
first_more (suc count) bytes =
    let place : field_length + count * field_length ≡ suc count * field_length = omega arith in
    rw (first_more count (drop field_length bytes), drop-drop, place, append_assoc)

-- the fields, as the code goes over them
pub chunk-at : (place count : ℕ) (bytes d : List ℕ) → place < count → get_or (first_chunks field_length count bytes) place d ≡ field_at place bytes
chunk-at place zero bytes d h = absurd (omega arith)
chunk-at zero (suc count) bytes d h = refl
chunk-at (suc place) (suc count) bytes d h =
    let from : field_length + place * field_length ≡ suc place * field_length = omega arith in
    chunk-at place count (drop field_length bytes) d (omega arith) ∙ rw (drop-drop, from)

pub entries_length : (bytes : List ℕ) → length (entries_of bytes) ≡ field_count bytes * entry_length
unfolding entries_of
entries_length bytes = first-length (field_count bytes) bytes

-- one entry more, laid into the room after those before it
module _ (count : ℕ) (bytes room before part : List ℕ) where
  pub one_more : suc count * entry_length ≤ length room → before ≡ laid (first_entries count bytes) room
      → part ≡ laid (entry_of (field_at count bytes)) (mid_of (count * entry_length) (length before - count * entry_length) before)
      → put_mid (count * entry_length) (length before - count * entry_length) before part ≡ laid (first_entries (suc count) bytes) room
  one_more fits e f =
      let so_far = first_entries count bytes in
      let entry = entry_of (field_at count bytes) in
      let h : length so_far + length entry ≤ length room = rw (first-length count bytes, entry-length (field_at count bytes)) (omega arith) in
      rw (first_more count bytes) (laid-behind so_far room entry h (count * entry_length) before part (sym (first-length count bytes)) e f)
