-- How long a rank is.
-- Assumes nothing.
use Prim.Native.Nat.{ℕ, ◌≤◌}
use mathlib.Core.Path.{◌≡◌}
use mathlib.Core.List.{List, map}
use mathlib.Core.Bool.{true, false, and-false}
use native.Mathlib.Omega.{arith}
use lib.Dec.{leb}
use lib.ListN.{length, length-append, length-map, length-replicate}
use borrow.Author.Tests.{leb-true}
use borrow.Table.Steps.{cases}
use Rattle.version.specs.Text.{text, parts, value, most_numbers, well_formed}
use Rattle.version.specs.Rank.{rank_length, filled, rank_of}

-- a well-formed text has no more numbers than a rank
few : (field : List ℕ) → well_formed field ≡ true → length (parts (text field)) ≤ most_numbers
unfolding well_formed
few field good =
    let n = length (parts (text field)) in
    cases (leb n most_numbers)
    (λ e. leb-true n most_numbers e)
    (λ e. absurd (let q : false ≡ true = simp (e, and-false) at good in let z : ◌≡◌ {A = ℕ} 0 1 = cc in omega arith))

filled-length : (numbers : List ℕ) → length numbers ≤ rank_length → length (filled numbers) ≡ rank_length
filled-length numbers h = rw (length-append, length-replicate) (omega arith)

pub rank-length : (field : List ℕ) → length (rank_of field).rank ≡ rank_length
unfolding rank_of
rank-length field =
    cases (well_formed field)
    (λ good. simp good (filled-length (map value (parts (text field))) (rw length-map (few field good))))
    (λ bad. simp bad)
