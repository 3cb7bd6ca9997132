-- Each field of a tray that is not refused gets what it gives alone.
-- Assumes nothing.
use Prim.Native.Nat.{ℕ, zero, suc, ◌+◌, ◌*◌, ◌<◌}
use mathlib.Core.Path.{◌≡◌}
use mathlib.Core.List.{List, ◌++◌, append_assoc}
use native.Mathlib.Omega.{arith}
use lib.ListN.{length, take, drop}
use lib.Seq.{take_at, drop-drop, drop-append-add, drop-append_seam}
use borrow.Author.Tests.{eq-eqb}
use Rattle.memory.specs.Store.{laid}
use Rattle.version.specs.Text.{field_length}
use Rattle.tray.specs.Tray.{field_count, entry_of, entries_of, refusal_of, tray_of}
use Rattle.tray.specs.Entry.{entry_length, field_at, entry_at, EachAsAlone}
use Rattle.tray.proofs.Entries.{first_entries, entry-length, entries_length}

entry-at : (place count : ℕ) (bytes rest : List ℕ) → place < count → entry_at place (first_entries count bytes ++ rest) ≡ entry_of (field_at place bytes)
entry-at place zero bytes rest h = absurd (omega arith)
entry-at zero (suc count) bytes rest h =
    let entry = entry_of (take field_length bytes) in
    rw append_assoc (take_at entry (first_entries count (drop field_length bytes) ++ rest) entry_length (entry-length (take field_length bytes)))
entry-at (suc place) (suc count) bytes rest h =
    let entry = entry_of (take field_length bytes) in
    let after = first_entries count (drop field_length bytes) ++ rest in
    let past : suc place * entry_length ≡ length entry + place * entry_length = rw (entry-length (take field_length bytes)) (omega arith) in
    let from : field_length + place * field_length ≡ suc place * field_length = omega arith in
    rw (append_assoc, past, drop-append-add entry after (place * entry_length), ← from, ← drop-drop (place * field_length) field_length bytes)
    (entry-at place count (drop field_length bytes) rest (omega arith))

-- accepted, the room begins with the entries
accepted : (bytes ranks : List ℕ) → (tray_of bytes ranks).number ≡ 0 → (tray_of bytes ranks).ranks ≡ laid (entries_of bytes) ranks
unfolding tray_of
accepted bytes ranks e = simp (eq-eqb (refusal_of bytes ranks) 0 e)

entry_kept : (bytes rest : List ℕ) (place : ℕ) → place < field_count bytes → entry_at place (entries_of bytes ++ rest) ≡ entry_of (field_at place bytes)
unfolding entries_of
entry_kept bytes rest place h = entry-at place (field_count bytes) bytes rest h

pub each-as-alone : EachAsAlone
each-as-alone bytes ranks e =
    record {
      entry_is = λ place h. rw (accepted bytes ranks e) (entry_kept bytes (drop (length (entries_of bytes)) ranks) place h);
      rest_stays = rw (accepted bytes ranks e, ← entries_length bytes) (drop-append_seam (entries_of bytes) (drop (length (entries_of bytes)) ranks));
    }
