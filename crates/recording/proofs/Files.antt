-- A file with nothing wrong can be read.
-- Assumes nothing.
use Prim.Native.Nat.{ℕ, ◌+◌, ◌≤◌}
use native.Mathlib.Omega.{arith}
use mathlib.Core.Path.{◌≡◌, refl, sym, ap, ◌∙◌}
use mathlib.Core.Bool.{Bool, true, false, cond, not}
use mathlib.Core.List.{List}
use lib.Dec.{eqb, leb}
use lib.ListN.{length, drop}
use borrow.Author.Tests.{eq-eqb, ne_eqb, eqb-true, leb-true}
use borrow.Table.Steps.{cases}
use Rattle.memory.specs.Compare.{is_front}
use Rattle.numbers.specs.Number.{read_at}
use Rattle.recording.specs.Form.{mark, bad_mark, bad_version, is_version, head_length, head_fault}
use Rattle.recording.specs.Recording.{Recording, reads, refused, entries_of, recording_of, fault_of}
use Rattle.recording.specs.Left.{Readable}
use Rattle.recording.proofs.Entries.{Reads, reads_of}

pub fault-refused : (r : Recording) → (fault_of r ≡ 0 → ⊥) → r ≡ refused (fault_of r)
fault-refused (reads entries) n = absurd (n refl)
fault-refused (refused number) n = refl

-- a version that is cut short is none
no-version : (file : List ℕ) → leb (3 + 2) (length file) ≡ false → is_version (read_at 2 file 3) ≡ false
unfolding read_at
no-version file f = rw f refl

pub version-inside : (file : List ℕ) → is_version (read_at 2 file 3) ≡ true → head_length ≤ length file
version-inside file e = cases (leb (3 + 2) (length file)) (λ t. leb-true _ _ t) (λ f. absurd (let z : ⊥ = cc (e, no-version file f) in z))

-- a head with nothing wrong is there
head-inside : (file : List ℕ) → head_fault file ≡ 0 → head_length ≤ length file
unfolding head_fault
head-inside file e = go (is_front mark file) (is_version (read_at 2 file 3)) refl e
  where
    go : (marked version : Bool) → is_version (read_at 2 file 3) ≡ version →
        ◌≡◌ {A = ℕ} (cond (not marked) bad_mark (cond (not version) bad_version 0)) 0 → head_length ≤ length file
    go false version v e = absurd (let z : ⊥ = omega arith in z)
    go true false v e = absurd (let z : ⊥ = omega arith in z)
    go true true v e = version-inside file v

-- the head is judged before the entries
module _ (file : List ℕ) where
  pub head-bad : (head_fault file ≡ 0 → ⊥) → fault_of (recording_of file) ≡ head_fault file
  unfolding recording_of
  head-bad n = simp (ne_eqb _ _ n)

  pub head-good : head_fault file ≡ 0 → recording_of file ≡ entries_of (drop head_length file)
  unfolding recording_of
  head-good e = simp (eq-eqb _ _ e)

module _ (file : List ℕ) (e : fault_of (recording_of file) ≡ 0) where
  good-head : head_fault file ≡ 0
  unfolding recording_of
  good-head = cases (eqb (head_fault file) 0) (λ t. eqb-true _ _ t) (λ f. rw f at e)

  pub file-entries : recording_of file ≡ entries_of (drop head_length file)
  file-entries = head-good file good-head

  pub file-inside : head_length ≤ length file
  file-inside = head-inside file good-head

  pub readable-file : Readable (drop head_length file)
  readable-file = record { no_fault = sym (ap fault_of file-entries) ∙ e }

  pub file-reads : Reads (entries_of (drop head_length file))
  file-reads = reads_of (drop head_length file) readable-file.no_fault
