-- What is wrong with a head and with an entry, test by test, and the kind that a byte says.
-- Assumes nothing.
use Prim.Native.Nat.{ℕ, ◌+◌, ◌-◌, ◌≤◌, ◌<◌}
use native.Mathlib.Omega.{arith}
use mathlib.Core.Path.{◌≡◌, refl, sym}
use mathlib.Core.Bool.{Bool, true, false, cond, ◌||◌}
use mathlib.Core.List.{List}
use lib.Dec.{eqb, leb}
use lib.ListN.{length, drop, length-drop}
use lib.Seq.{length-take-le}
use borrow.Author.Tests.{le-leb, lt-leb, leb-true, leb-false}
use borrow.Table.Steps.{cases}
use denote.Bor.{Bor}
use Rattle.std.specs.Prelude.{Option, Some, None, Result, Ok, Err}
use Rattle.std.specs.Option.{option_eq, ok_or}
use Rattle.std.specs.List.{slice_range}
use Rattle.std.specs.Slice.{IsGetRangeResult}
use Rattle.memory.specs.Compare.{is_front}
use Rattle.numbers.specs.Number.{read_at}
use Rattle.recording.specs.declared.form.Fault.{Fault}
use Rattle.recording.specs.declared.form.Fault.TheVariants.{BadMark, BadVersion, UnknownKind, CutShort}
use Rattle.recording.specs.declared.form.Kind.{Kind}
use Rattle.recording.specs.declared.form.Kind.TheVariants.{Host, Device}
use Rattle.recording.specs.Form.{fault_number, number_of, bad_mark, bad_version, unknown_kind, cut_short, mark, form_version, is_version, head_fault, host_kind, device_kind, kind_of, is_kind, entry_head, kind_in, size_in, entry_fault}

-- no fault has the number 0
pub fault-some : (fault : Fault) → fault_number fault ≡ 0 → ⊥
fault-some BadMark e = omega arith
fault-some BadVersion e = omega arith
fault-some UnknownKind e = omega arith
fault-some CutShort e = omega arith

-- the head
pub same-version : (found : Option ℕ) → option_eq eqb found (Some form_version) ≡ is_version found
same-version (Some version) = refl
same-version None = refl

module _ (file : List ℕ) where
  pub no-mark : is_front mark file ≡ false → head_fault file ≡ bad_mark
  unfolding head_fault
  no-mark e = simp e

  module _ (marked : is_front mark file ≡ true) where
    pub other-version : is_version (read_at 2 file 3) ≡ false → head_fault file ≡ bad_version
    unfolding head_fault
    other-version e = simp (marked, e)

    pub good-version : is_version (read_at 2 file 3) ≡ true → head_fault file ≡ 0
    unfolding head_fault
    good-version e = simp (marked, e)

-- the kinds
pub some-kind : (byte : ℕ) (kind : Kind) → Ok kind ≡ kind_of byte → is_kind byte ≡ true
some-kind byte kind e = go (eqb byte host_kind) (eqb byte device_kind) e
  where
    go : (host device : Bool) → Ok kind ≡ cond host (Ok Host) (cond device (Ok Device) (Err UnknownKind)) → (host || device) ≡ true
    go true device e = refl
    go false true e = refl
    go false false e = absurd (let z : ⊥ = cc in z)

pub no-kind : (byte : ℕ) (fault : Fault) → ◌≡◌ {A = Result Kind Fault} (Err fault) (kind_of byte) → (is_kind byte ≡ false) × (fault_number fault ≡ unknown_kind)
no-kind byte fault e = go (eqb byte host_kind) (eqb byte device_kind) e
  where
    go : (host device : Bool) → ◌≡◌ {A = Result Kind Fault} (Err fault) (cond host (Ok Host) (cond device (Ok Device) (Err UnknownKind)))
        → ((host || device) ≡ false) × (fault_number fault ≡ unknown_kind)
    go true device e = absurd (let z : ⊥ = cc in z)
    go false true e = absurd (let z : ⊥ = cc in z)
    go false false e = (refl, cc)

-- an entry
module _ (bytes : List ℕ) where
  pub fault-kind : is_kind (kind_in bytes) ≡ false → entry_fault bytes ≡ unknown_kind
  unfolding entry_fault
  fault-kind e = simp e

  module _ (known : is_kind (kind_in bytes) ≡ true) where
    pub fault-short : length bytes < entry_head → entry_fault bytes ≡ cut_short
    unfolding entry_fault
    fault-short h = simp (known, lt-leb _ _ h)

    fault-cut : entry_head ≤ length bytes → length bytes < entry_head + size_in bytes → entry_fault bytes ≡ cut_short
    unfolding entry_fault
    fault-cut h g = simp (known, le-leb _ _ h, lt-leb _ _ g)

    fault-none : entry_head ≤ length bytes → entry_head + size_in bytes ≤ length bytes → entry_fault bytes ≡ 0
    unfolding entry_fault
    fault-none h g = simp (known, le-leb _ _ h, le-leb _ _ g)

    abbrev past_head : List ℕ
    past_head = slice_range bytes entry_head (length bytes)

    long : length past_head ≡ length bytes - entry_head
    long = length-take-le (length bytes - entry_head) (drop entry_head bytes) (omega (arith, length-drop entry_head bytes))

    -- by what lies past its own bytes
    pub fault-past : entry_head ≤ length bytes → (size : ℕ) → size ≡ size_in bytes → (rest : Option (Bor (List ℕ))) →
        IsGetRangeResult past_head size (length past_head) rest → number_of (ok_or rest CutShort) ≡ entry_fault bytes
    fault-past h size is (Some rest) p = sym (fault-none h (omega (arith, h, is, p.0.0, long)))
    fault-past h size is None p =
        cases (leb size (length past_head))
        (λ t. absurd (let z : ⊥ = cc (p.1 (leb-true _ _ t, omega arith)) in z))
        (λ f. let less : length past_head < size = leb-false _ _ f in sym (fault-cut h (omega (arith, h, is, less, long))))
