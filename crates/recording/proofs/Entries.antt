-- The entries of a file, one after the other.
-- Assumes nothing.
use Prim.Native.Nat.{ℕ, zero, suc, ◌+◌, ◌≤◌, ◌<◌}
use native.Mathlib.Omega.{arith}
use mathlib.Core.Path.{◌≡◌, refl, sym, ap, ◌∙◌}
use mathlib.Core.Bool.{Bool, true, false, cond, not}
use mathlib.Core.List.{List, [], ◌∷◌, ◌++◌}
use lib.Dec.{eqb, leb}
use lib.ListN.{length, drop, length-take, length-drop, length-append}
use borrow.Author.Tests.{eq-eqb, ne_eqb, eqb-true, eqb-false, leb-true}
use borrow.Table.Steps.{cases}
use Rattle.wire.proofs.Tests.{both_true}
use Rattle.recording.specs.Form.{unknown_kind, cut_short, entry_head, kind_in, size_in, own_bytes, past_entry, is_kind, is_whole, entry_fault}
use Rattle.recording.specs.Recording.{Entry, Recording, reads, refused, after, entries_at, entries_of, fault_of, joined, joined_in}

-- the entry that these bytes begin with
abbrev pub entry_in : List ℕ → Entry
entry_in bytes = record { kind = kind_in bytes; bytes = own_bytes bytes }

pub no-entries : entries_of [] ≡ reads []
unfolding entries_of entries_at
no-entries = refl

-- what follows an entry is shorter
past-shorter : (byte : ℕ) (bytes : List ℕ) → length (past_entry (byte ∷ bytes)) ≤ length bytes
past-shorter byte bytes = omega (arith, length-drop (entry_head + size_in (byte ∷ bytes)) (byte ∷ bytes))

-- an entry's bytes and what follows it
own-shorter : (bytes : List ℕ) → length (own_bytes bytes) + length (past_entry bytes) ≤ length bytes
own-shorter bytes = omega (arith, length-take (size_in bytes) (drop entry_head bytes), length-drop entry_head bytes, length-drop (entry_head + size_in bytes) bytes)

-- more entries than there can be change nothing
fuel-same : (k l : ℕ) (bytes : List ℕ) → length bytes ≤ k → length bytes ≤ l → entries_at k bytes ≡ entries_at l bytes
unfolding entries_at
fuel-same zero zero bytes h g = refl
fuel-same zero (suc l) [] h g = refl
fuel-same zero (suc l) (byte ∷ bytes) h g = absurd (let z : ⊥ = omega arith in z)
fuel-same (suc k) zero [] h g = refl
fuel-same (suc k) zero (byte ∷ bytes) h g = absurd (let z : ⊥ = omega arith in z)
fuel-same (suc k) (suc l) [] h g = refl
fuel-same (suc k) (suc l) (byte ∷ bytes) h g =
    let less = past-shorter byte bytes in
    rw (fuel-same k l (past_entry (byte ∷ bytes)) (omega (arith, less)) (omega (arith, less))) refl

-- the first entry, and then what follows it
pub entries-first : (bytes : List ℕ) → 0 < length bytes →
    entries_of bytes ≡ cond (eqb (entry_fault bytes) 0) (after (entry_in bytes) (entries_of (past_entry bytes))) (refused (entry_fault bytes))
unfolding entries_at entries_of
entries-first [] h = absurd (let z : ⊥ = omega arith in z)
entries-first (byte ∷ bytes) h =
    rw (fuel-same (length bytes) (length (past_entry (byte ∷ bytes))) (past_entry (byte ∷ bytes)) (past-shorter byte bytes) (omega arith)) refl

-- an entry with nothing wrong is whole
pub whole-entry : (bytes : List ℕ) → entry_fault bytes ≡ 0 → entry_head + size_in bytes ≤ length bytes
unfolding entry_fault
whole-entry bytes e = go (is_kind (kind_in bytes)) (is_whole bytes) refl e
  where
    go : (kind whole : Bool) → is_whole bytes ≡ whole → ◌≡◌ {A = ℕ} (cond (not kind) unknown_kind (cond (not whole) cut_short 0)) 0 → entry_head + size_in bytes ≤ length bytes
    go false whole w e = absurd (let z : ⊥ = omega arith in z)
    go true false w e = absurd (let z : ⊥ = omega arith in z)
    go true true w e = leb-true _ _ (both_true (leb entry_head (length bytes)) (leb (entry_head + size_in bytes) (length bytes)) w).1

after-fault : (entry : Entry) (rest : Recording) → fault_of (after entry rest) ≡ fault_of rest
after-fault entry (reads entries) = refl
after-fault entry (refused number) = refl

-- a fault, or the next one after a good entry
pub fault-here : (bytes : List ℕ) → 0 < length bytes → (entry_fault bytes ≡ 0 → ⊥) → fault_of (entries_of bytes) ≡ entry_fault bytes
fault-here bytes h n = rw (entries-first bytes h, ne_eqb _ _ n) refl

pub fault-later : (bytes : List ℕ) → 0 < length bytes → entry_fault bytes ≡ 0 → fault_of (entries_of bytes) ≡ fault_of (entries_of (past_entry bytes))
fault-later bytes h e = rw (entries-first bytes h, eq-eqb _ _ e) (after-fault (entry_in bytes) (entries_of (past_entry bytes)))

-- where nothing is wrong with the entries, nothing is with the first
pub first_good : (bytes : List ℕ) → 0 < length bytes → fault_of (entries_of bytes) ≡ 0 → entry_fault bytes ≡ 0
first_good bytes h e =
    cases (eqb (entry_fault bytes) 0) (λ t. eqb-true _ _ t)
    (λ f. let n : entry_fault bytes ≡ 0 → ⊥ = eqb-false _ _ f in absurd (n (sym (fault-here bytes h n) ∙ e)))

-- entries with no fault can be read
pub record Reads (r : Recording) : Type 0 where
  pub entries : List Entry
  pub is : r ≡ reads entries

good-at : (fuel byte : ℕ) (bytes : List ℕ) → eqb (entry_fault (byte ∷ bytes)) 0 ≡ true →
    entries_at (suc fuel) (byte ∷ bytes) ≡ after (entry_in (byte ∷ bytes)) (entries_at fuel (past_entry (byte ∷ bytes)))
unfolding entries_at
good-at fuel byte bytes t = rw t refl

reads_at : (fuel : ℕ) (bytes : List ℕ) → fault_of (entries_at fuel bytes) ≡ 0 → Reads (entries_at fuel bytes)
unfolding entries_at
reads_at zero bytes e = record { entries = []; is = refl }
reads_at (suc fuel) [] e = record { entries = []; is = refl }
reads_at (suc fuel) (byte ∷ bytes) e =
    let entry = entry_in (byte ∷ bytes) in
    let rest = entries_at fuel (past_entry (byte ∷ bytes)) in
    cases (eqb (entry_fault (byte ∷ bytes)) 0)
    (λ t.
    let here = good-at fuel byte bytes t in
    let r = reads_at fuel (past_entry (byte ∷ bytes)) (sym (ap fault_of here ∙ after-fault entry rest) ∙ e) in
    record { entries = entry ∷ r.entries; is = here ∙ ap (after entry) r.is })
    (λ f. absurd (eqb-false _ _ f (rw f at e)))

-- the joined bytes: those of the first entry, if it is of the kind, and those of what follows it
pub joined-later : (kind : ℕ) (bytes : List ℕ) → 0 < length bytes → fault_of (entries_of bytes) ≡ 0 →
    let later = joined_in kind (entries_of (past_entry bytes)) in
    joined_in kind (entries_of bytes) ≡ cond (eqb (kind_in bytes) kind) (own_bytes bytes ++ later) later
unfolding entries_of
joined-later kind bytes h e =
    let first = first_good bytes h e in
    let rest = past_entry bytes in
    let r = reads_at (length rest) rest (sym (fault-later bytes h first) ∙ e) in
    rw (entries-first bytes h, eq-eqb _ _ first) (rw r.is refl)

pub reads_of : (bytes : List ℕ) → fault_of (entries_of bytes) ≡ 0 → Reads (entries_of bytes)
unfolding entries_of
reads_of bytes e = reads_at (length bytes) bytes e

-- they are no more than all bytes
joined-at : (kind fuel : ℕ) (bytes : List ℕ) → length (joined_in kind (entries_at fuel bytes)) ≤ length bytes
unfolding entries_at
joined-at kind zero bytes = omega arith
joined-at kind (suc fuel) [] = omega arith
joined-at kind (suc fuel) (byte ∷ bytes) = go (eqb (entry_fault (byte ∷ bytes)) 0) (entries_at fuel (past_entry (byte ∷ bytes))) (joined-at kind fuel (past_entry (byte ∷ bytes)))
  where
    go : (good : Bool) (rest : Recording) → length (joined_in kind rest) ≤ length (past_entry (byte ∷ bytes)) →
        length (joined_in kind (cond good (after (entry_in (byte ∷ bytes)) rest) (refused (entry_fault (byte ∷ bytes))))) ≤ length (byte ∷ bytes)
    go false rest h = omega arith
    go true (refused number) h = omega arith
    go true (reads entries) h =
        cases (eqb (kind_in (byte ∷ bytes)) kind)
        (λ t. rw t (omega (arith, h, length-append (own_bytes (byte ∷ bytes)) (joined kind entries), own-shorter (byte ∷ bytes))))
        (λ f. rw f (omega (arith, h, past-shorter byte bytes)))

pub joined-short : (kind : ℕ) (bytes : List ℕ) → length (joined_in kind (entries_of bytes)) ≤ length bytes
unfolding entries_of
joined-short kind bytes = joined-at kind (length bytes) bytes
