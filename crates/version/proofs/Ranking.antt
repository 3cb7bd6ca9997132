-- The turns of the loop that ranks a field, one part of its text after the other.
-- Assumes nothing.
use Prim.Native.Nat.{ℕ, zero, suc, ◌+◌, ◌-◌, ◌≤◌, ◌<◌}
use mathlib.Core.Path.{◌≡◌, refl, sym, ap, ◌∙◌}
use mathlib.Core.List.{List, [], ◌++◌, map}
use mathlib.Core.Bool.{true, false, ◌&&◌, and-false, and-true}
use native.Mathlib.Nat.{zero-add, add-zero}
use native.Mathlib.Omega.{arith}
use native.Mathlib.Numerals.{add-one}
use lib.Dec.{eqb, leb, ltb}
use lib.ListN.{length, take, drop, get_or, set, replicate, length-drop, length-set, length-map, get_or-eq_default}
use lib.Seq.{sets, sets-eq, drop-drop, get_or-drop}
use borrow.Author.Tests.{le-leb, lt-leb, eq-eqb, eqb-true, eqb-false, leb-true, ltb-true, ltb-false}
use Rattle.std.proofs.Common.{Option, Some, None}
use Rattle.std.specs.Bool.{then_some}
use Rattle.version.specs.declared.decimal.Decimal.{Decimal}
use Rattle.version.specs.Text.{text, padding, all_zero, dot, first_part, later_parts, parts, value, is_number, all_numbers, field_length, most_numbers, well_formed}
use Rattle.version.specs.Decimal.{digits_of, decimal_at}
use Rattle.version.specs.Rank.{rank_length, filled, numbers_of}
use borrow.Table.Steps.{cases}
use Rattle.std.proofs.lemmas.List.{take_rest}
use Rattle.std.proofs.lemmas.Option.{none-some, same_Some, gets}
use Rattle.version.proofs.Parts.{rest, After, at_end, at-dot, at_other, after, not-number, digits-short}

-- the rank of the bytes `l`, whose numbers go to `place` of the rank and to those after it
abbrev found : (place : ℕ) (rank l : List ℕ) → Option (List ℕ)
found place rank l =
    then_some (all_zero (padding l) && (leb (place + length (parts (text l))) most_numbers && all_numbers (parts (text l)))) (sets rank place (map value (parts (text l))))

zeros-left : (k n : ℕ) → drop {A = ℕ} k (replicate n 0) ≡ replicate (n - k) 0
zeros-left zero n = let e : n - 0 ≡ n = omega arith in rw e
zeros-left (suc k) zero = let e : 0 - suc k ≡ 0 = omega arith in rw e
zeros-left (suc k) (suc n) = let e : suc n - suc k ≡ n - k = omega arith in rw e (zeros-left k n)

-- numbers stored over zeros are filled up with zeros
over_zeros : (numbers : List ℕ) → length numbers ≤ rank_length → sets (replicate rank_length 0) 0 numbers ≡ filled numbers
over_zeros numbers h =
    sets-eq numbers (replicate rank_length 0) 0 (omega arith)
    ∙ ap (λ (l : List ℕ). numbers ++ l) (rw (zeros-left (0 + length numbers) rank_length) (ap (λ (k : ℕ). replicate (rank_length - k) 0) (zero-add (length numbers))))

found_none : (field : List ℕ) → length field ≡ field_length → found 0 (replicate rank_length 0) field ≡ numbers_of field
unfolding well_formed
found_none field h =
    let all = parts (text field) in
    let z : 0 + length all ≡ length all = omega arith in
    cases (leb (length all) most_numbers)
    (λ e.
    let few : length (map value all) ≤ rank_length = rw (length-map all value) (leb-true (length all) most_numbers e) in
    simp (eq-eqb (length field) field_length h, z, e) (ap (then_some (all_zero (padding field) && all_numbers all)) (over_zeros (map value all) few)))
    (λ e. simp (eq-eqb (length field) field_length h, z, e, and-false))

module _ (field : List ℕ) (at place : ℕ) (rank : List ℕ) where
  abbrev here : List ℕ
  here = drop at field

  found-full : most_numbers ≤ place → found place rank here ≡ None
  found-full h =
      let k : leb (place + length (parts (text here))) most_numbers ≡ false = lt-leb (place + length (parts (text here))) most_numbers (omega arith) in
      simp (k, and-false)

  no_number : decimal_at field at ≡ None → is_number (digits_of here) ≡ false
  unfolding decimal_at
  no_number e =
      cases (is_number (digits_of here))
      (λ t. absurd (none-some _ (sym (simp t at e))))
      (λ t. t)

  found-malformed : decimal_at field at ≡ None → found place rank here ≡ None
  found-malformed e = go (after here)
    where
      go : After here → found place rank here ≡ None
      go (at_end f l p d) = simp (f, no_number e, and-false)
      go (at-dot t r f l p) = simp (f, no_number e, and-false)
      go (at_other f z d) = simp (not-number (first_part (text here)) f, and-false)

  module _ (v end : ℕ) (e : decimal_at field at ≡ Some (record { value = v; end = end })) where
    yes : is_number (digits_of here) ≡ true
    unfolding decimal_at
    yes = cases (is_number (digits_of here)) (λ t. t) (λ t. absurd (none-some _ (simp t at e)))

    value-is : value (digits_of here) ≡ v
    unfolding decimal_at
    value-is = ap (λ (d : Decimal). d.value) (same_Some _ _ (simp yes at e))

    end_is : at + length (digits_of here) ≡ end
    unfolding decimal_at
    end_is = ap (λ (d : Decimal). d.end) (same_Some _ _ (simp yes at e))

    rest-is : rest here ≡ drop end field
    rest-is = drop-drop (length (digits_of here)) at field ∙ ap (λ (k : ℕ). drop k field) end_is

    head-is : get_or (rest here) 0 0 ≡ get_or field end 0
    head-is = rw rest-is (get_or-drop end field 0 0 ∙ ap (λ (k : ℕ). get_or field k 0) (add-zero end))

    found_inside : at ≤ length field → end ≤ length field
    found_inside h = omega (arith, digits-short here, length-drop at field, end_is)

    found-dotted : eqb (get_or field end 0) dot ≡ true → found place rank here ≡ found (place + 1) (set rank place v) (drop (end + 1) field)
    found-dotted d = go (after here)
      where
        go : After here → found place rank here ≡ found (place + 1) (set rank place v) (drop (end + 1) field)
        go (at_end f l p n) = absurd (let z : ◌≡◌ {A = ℕ} 0 1 = cc head-is in omega arith)
        go (at-dot t r f l p) =
            let next : drop (end + 1) field ≡ t = sym (drop-drop 1 end field) ∙ ap (drop 1) (sym rest-is ∙ r) in
            let k : place + suc (suc (length (later_parts (text t)))) ≡ place + 1 + suc (length (later_parts (text t))) = omega arith in
            simp (next, f, l, p, yes, k, value-is) (rw (add-one place))
        go (at_other f z n) = absurd (let z : ◌≡◌ {A = ℕ} 0 1 = cc head-is in omega arith)

    found-ended : place < most_numbers → eqb (get_or field end 0) dot ≡ false → found place rank here ≡ then_some (all_zero (drop end field)) (set rank place v)
    found-ended h d = go (after here)
      where
        go : After here → found place rank here ≡ then_some (all_zero (drop end field)) (set rank place v)
        go (at_end f l p n) =
            let k : leb (place + 1) most_numbers ≡ true = le-leb (place + 1) most_numbers (omega arith) in
            simp (f, l, p, yes, k, value-is, rest-is, and-true)
        go (at-dot t r f l p) = absurd (let n : get_or field end 0 ≡ dot = sym head-is ∙ ap (λ (x : List ℕ). get_or x 0 0) r in eqb-false (get_or field end 0) dot d n)
        go (at_other f z n) = simp (sym rest-is, z, not-number (first_part (text here)) f, and-false)

-- a number ends inside the field
pub decimal_inside : (field : List ℕ) (at : ℕ) (d : Decimal) → decimal_at field at ≡ Some d → at ≤ length field → d.end ≤ length field
decimal_inside field at d e h = found_inside field at 0 [] d.value d.end e h

-- the numbers before a place of the field are in the rank; the rest is still to be read
pub record Ranking (field rank : List ℕ) (at place : ℕ) : Type 0 where
  pub inside : at ≤ length field
  pub whole : length rank ≡ rank_length
  pub left : found place rank (drop at field) ≡ numbers_of field

pub ranking-none : (field : List ℕ) → length field ≡ field_length → Ranking field (replicate rank_length 0) 0 0
ranking-none field h = record { inside = omega arith; whole = refl; left = found_none field h }

pub ranking-full : (field rank : List ℕ) (at place : ℕ) → Ranking field rank at place → most_numbers ≤ place → numbers_of field ≡ None
ranking-full field rank at place r h = sym r.left ∙ found-full field at place rank h

pub ranking-malformed : (field rank : List ℕ) (at place : ℕ) → Ranking field rank at place → decimal_at field at ≡ None → numbers_of field ≡ None
ranking-malformed field rank at place r e = sym r.left ∙ found-malformed field at place rank e

module _ (field rank : List ℕ) (at place v end : ℕ) (r : Ranking field rank at place) (e : decimal_at field at ≡ Some (record { value = v; end = end })) where
  -- a dot is no byte past the end
  dot-inside : eqb (get_or field end 0) dot ≡ true → end < length field
  dot-inside d =
      cases (ltb end (length field))
      (λ t. ltb-true end (length field) t)
      (λ t. absurd (let z : get_or field end 0 ≡ 0 = get_or-eq_default field 0 (ltb-false end (length field) t) in omega (arith, eqb-true (get_or field end 0) dot d)))

  pub ranking-dotted : eqb (get_or field end 0) dot ≡ true → Ranking field (set rank place v) (end + 1) (place + 1)
  ranking-dotted d =
      record {
        inside = omega (arith, dot-inside d);
        whole = length-set rank place v ∙ r.whole;
        left = sym (found-dotted field at place rank v end e d) ∙ r.left;
      }

  pub ranking-ended : place < most_numbers → eqb (get_or field end 0) dot ≡ false → numbers_of field ≡ then_some (all_zero (take (length field - end) (drop end field))) (set rank place v)
  ranking-ended h d =
      rw take_rest (sym r.left ∙ found-ended field at place rank v end e h d)

pub ruleset rankings = (gets, decimal_inside, ranking-none, ranking-full, ranking-malformed, ranking-ended)
