-- A copy into a part of a memory, as it is said of the whole.
-- Assumes nothing.
use Prim.Native.Nat.{ℕ, ◌+◌, ◌-◌, ◌≤◌, min}
use native.Mathlib.Omega.{arith}
use mathlib.Core.Path.{◌≡◌, ◌∙◌}
use mathlib.Core.List.{List}
use lib.ListN.{length, take, drop, length-drop}
use lib.Seq.{length-take-le, take-take}
use borrow.Rule.Slice.PartMut.{mid_of, put_mid}
use Rattle.memory.specs.Store.{laid}
use Rattle.memory.specs.Copy.{Copied}
use Rattle.memory.proofs.Stores.{laid-part}

pub copied : (source : List ℕ) (i : ℕ) (memory : List ℕ) (p e : ℕ) (part : List ℕ) (count : ℕ) → (i ≤ length source) × (p ≤ e) × (e ≤ length memory) →
    count ≡ min (e - p) (length source - i) → part ≡ laid (take (i + count - i) (drop i source)) (mid_of p (length memory - p) memory) →
    Copied source i memory p e (put_mid p (length memory - p) memory part) count
copied source i memory p e part count h c f =
    let bytes : List ℕ = take count (drop i source) in
    let x : i + count - i ≡ count = omega arith in
    let z : length bytes ≡ count = length-take-le count (drop i source) (simp length-drop (omega arith)) in
    record { count_is = c; memory_is = rw (f, x) (laid-part memory bytes p (omega arith) ∙ rw (z, take-take count count (drop i source) (omega arith))) }
