-- A part that is taken of a lent slice.
-- Assumes nothing.
use Prim.Native.Nat.{ℕ, ◌+◌, ◌-◌}
use mathlib.Core.Path.{◌≡◌, refl}
use mathlib.Core.List.{List}
use native.Mathlib.Omega.{arith}
use denote.Bor.{Bor}
use borrow.Rule.Slice.PartAt.{sl_partˢ}
use Rattle.wire.specs.Part.{IsPart}

pub part-taken : (whole : Bor (List ℕ)) (place size : ℕ) → IsPart (sl_partˢ whole (place + whole.ref_ptr.1) place (place + size)) whole place size
part-taken whole place size =
    let e : place + size - place ≡ size = omega arith in
    record { memory = refl; begins = refl; bytes = rw e }
