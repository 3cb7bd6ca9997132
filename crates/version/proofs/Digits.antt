-- The turns of the loop that reads a number, digit by digit.
-- Assumes nothing.
use Prim.Native.Nat.{ℕ, suc, ◌+◌, ◌*◌, ◌-◌, ◌≤◌, ◌<◌}
use mathlib.Core.Path.{◌≡◌, refl, sym, ◌∙◌}
use mathlib.Core.Logic.{◌⊎◌, inl, inr}
use mathlib.Core.List.{List, [], ◌∷◌}
use mathlib.Core.Bool.{Bool, true, false, not, ◌&&◌, ◌||◌, and-false, or-true}
use native.Mathlib.Nat.{add-zero}
use native.Mathlib.Omega.{arith}
use native.Mathlib.Numerals.{add-one}
use lib.Dec.{eqb, leb, ltb}
use lib.ListN.{length, take, drop, get_or, length-take, drop_of_length-le}
use lib.Seq.{drop-cons, get_or-drop}
use Rattle.std.proofs.lemmas.List.{take_rest}
use borrow.Author.Tests.{le-leb, lt-leb, lt-ltb, le-ltb, eq-eqb, ne_eqb, eqb-true, eqb-false, leb-true}
use borrow.Table.Steps.{cases}
use Rattle.std.proofs.Common.{Option, None}
use Rattle.std.specs.Bool.{then_some}
use Rattle.version.specs.declared.decimal.Decimal.{Decimal}
use Rattle.version.specs.Text.{is_digit, all_digits, is_empty, value_from, is_number, largest}
use Rattle.version.specs.Decimal.{digits_of, decimal_of, decimal_at}

-- the digits of a list are digits
digits-all : (l : List ℕ) → all_digits (digits_of l) ≡ true
digits-all [] = refl
digits-all (b ∷ bs) = cases (is_digit b) (λ e. simp (e, digits-all bs)) (λ e. simp e)

-- a value never falls as digits go on
value_grows : (v : ℕ) (ds : List ℕ) → v ≤ value_from v ds
value_grows v [] = omega arith
value_grows v (d ∷ ds) = let h = value_grows (v * 10 + (d - 0x30)) ds in omega arith

above : (v : ℕ) (ds : List ℕ) → largest < v → leb (value_from v ds) largest ≡ false
above v ds h = lt-leb (value_from v ds) largest (omega (arith, value_grows v ds))

-- `ds` go on after one digit or more with the value v
abbrev decimal_on : (v place : ℕ) → List ℕ → Option Decimal
decimal_on v place ds =
    then_some ((is_empty ds || not (eqb v 0)) && leb (value_from v ds) largest) (record { value = value_from v ds; end = place + length ds })

-- the number from a place on, where no digit is before it, or some are
abbrev decimal_from : Bool → (v place : ℕ) → List ℕ → Option Decimal
decimal_from true v place ds = decimal_of ds place
decimal_from false v place ds = decimal_on v place ds

-- no leading zero, by the first digit and by its value
lone-zero : (x y : Bool) → not (x && not y) ≡ (y || not x)
lone-zero true true = refl
lone-zero true false = refl
lone-zero false true = refl
lone-zero false false = refl

digit-zero : (d : ℕ) → 0x30 ≤ d → eqb d 0x30 ≡ eqb (0 * 10 + (d - 0x30)) 0
digit-zero d h =
    cases (eqb d 0x30)
    (λ e. let k : d ≡ 0x30 = eqb-true d 0x30 e in let z : 0 * 10 + (d - 0x30) ≡ 0 = omega arith in rw (e, z))
    (λ e. rw e (sym (ne_eqb (0 * 10 + (d - 0x30)) 0 (λ k. eqb-false d 0x30 e (omega arith)))))

pub digit_low : (d : ℕ) → is_digit d ≡ true → 0x30 ≤ d
digit_low d e = cases (leb 0x30 d) (λ h. leb-true 0x30 d h) (λ h. absurd (let z : ◌≡◌ {A = ℕ} 0 1 = cc in omega arith))

-- a first digit
first-digit : (place d : ℕ) (ds : List ℕ) → is_digit d ≡ true → all_digits ds ≡ true → decimal_of (d ∷ ds) place ≡ decimal_on (0 * 10 + (d - 0x30)) (place + 1) ds
unfolding is_number
first-digit place d ds e a =
    let h : 0x30 ≤ d = digit_low d e in
    let k : place + suc (length ds) ≡ place + 1 + length ds = omega arith in
    simp (e, a, lone-zero, digit-zero d h, k)

-- a digit after others, which have a value
next-digit : (v place d : ℕ) (ds : List ℕ) → 0 < v → decimal_on v place (d ∷ ds) ≡ decimal_on (v * 10 + (d - 0x30)) (place + 1) ds
next-digit v place d ds h =
    let n : eqb v 0 ≡ false = ne_eqb v 0 (λ k. omega arith) in
    let m : eqb (v * 10 + (d - 0x30)) 0 ≡ false = ne_eqb (v * 10 + (d - 0x30)) 0 (λ k. omega arith) in
    let k : place + suc (length ds) ≡ place + 1 + length ds = omega arith in
    simp (n, m, or-true, k)

-- a digit that makes a number too large
large-digit : (t : Bool) (v place d : ℕ) (ds : List ℕ) → (t ≡ true → v ≡ 0) → largest < v * 10 + (d - 0x30) → decimal_from t v place (d ∷ ds) ≡ None
unfolding is_number
large-digit true v place d ds z h =
    let e : v ≡ 0 = z refl in
    let k : largest < 0 * 10 + (d - 0x30) = omega arith in
    simp (above (0 * 10 + (d - 0x30)) ds k, and-false)
large-digit false v place d ds z h = simp (above (v * 10 + (d - 0x30)) ds h, and-false)

module _ (field : List ℕ) (start : ℕ) where
  -- the bytes from start on, as the loop goes over them
  abbrev bytes : List ℕ
  bytes = take (length field - start) (drop start field)

  -- the number whose digits from start on end before a place
  abbrev pub read_to : (place v : ℕ) → Option Decimal
  read_to place v = then_some (ltb start place) (record { value = v; end = place })

  -- the bytes from start to a place are digits, and their value is v; the rest is still to be read
  pub record Reading (place v : ℕ) : Type 0 where
    pub begun : start ≤ place
    pub inside : place ≤ length field
    pub small : v ≤ largest
    pub none : eqb start place ≡ true → v ≡ 0
    pub rest : decimal_at field start ≡ decimal_from (eqb start place) v place (digits_of (drop place field))

  pub reading-none : start ≤ length field → Reading start 0
  unfolding decimal_at
  reading-none h = record { begun = omega arith; inside = h; small = omega arith; none = λ e. refl; rest = simp (eq-eqb start start refl) }

  module _ (place v : ℕ) (read : Reading place v) where
    ends : digits_of (drop place field) ≡ [] → decimal_at field start ≡ read_to place v
    unfolding is_number
    ends e =
        cases (eqb start place)
        (λ t. let b : ltb start place ≡ false = le-ltb start place (omega (arith, eqb-true start place t)) in rw b (simp (t, e) at read.rest))
        (λ t.
        let b : ltb start place ≡ true = lt-ltb start place (omega (arith, read.begun, eqb-false start place t)) in
        rw b (simp (t, e, le-leb v largest read.small, add-zero) at read.rest))

    pub reading-all : length field ≤ place → decimal_at field start ≡ read_to place v
    reading-all h = ends (rw (drop_of_length-le field h))

    -- the next byte, the k-th of the bytes from start on
    module _ (k : ℕ) (at : place ≡ start + k) (more : k < length bytes) where
      abbrev byte : ℕ
      byte = get_or bytes k 0

      byte-is : byte ≡ get_or field place 0
      byte-is = rw (take_rest, get_or-drop, at)

      within : place < length field
      within = omega (arith, length-take (length field - start) (drop start field))

      abbrev longer : ℕ
      longer = v * 10 + (byte - 0x30)

      pub reading-other : is_digit byte ≡ false → decimal_at field start ≡ read_to place v
      reading-other e = ends (rw (drop-cons field place 0 within, ← byte-is) (simp e))

      module _ (is : is_digit byte ≡ true) where
        abbrev later : List ℕ
        later = digits_of (drop (place + 1) field)

        here : digits_of (drop place field) ≡ byte ∷ later
        here = rw (add-one, drop-cons field place 0 within, ← byte-is) (simp is)

        first : eqb start place ≡ true → decimal_at field start ≡ decimal_on longer (place + 1) later
        first t =
            let z : v ≡ 0 = read.none t in
            simp (t, here) at read.rest ∙ first-digit place byte later is (digits-all (drop (place + 1) field)) ∙ rw z refl

        next : 0 < v → eqb start place ≡ false → decimal_at field start ≡ decimal_on longer (place + 1) later
        next h t = simp (t, here) at read.rest ∙ next-digit v place byte later h

        -- digits without a leading zero have a value
        left : (start < place × (v ≡ 0 → ⊥)) ⊎ (place ≤ start) → eqb start place ≡ false → 0 < v
        left (inl lone) t = omega (arith, lone.1)
        left (inr none) t = absurd (eqb-false start place t (omega (arith, read.begun)))

        pub reading-more : (start < place × (v ≡ 0 → ⊥)) ⊎ (place ≤ start) → longer ≤ largest → Reading (place + 1) longer
        reading-more lone fits =
            let n : eqb start (place + 1) ≡ false = ne_eqb start (place + 1) (λ k. omega (arith, read.begun)) in
            record {
              begun = omega (arith, read.begun);
              inside = omega (arith, within);
              small = fits;
              none = λ e. absurd (let z : ◌≡◌ {A = ℕ} 0 1 = cc in omega arith);
              rest = rw n (cases (eqb start place) (λ t. first t) (λ t. next (left lone t) t));
            }

        pub reading-zero : start < place → v ≡ 0 → decimal_at field start ≡ None
        reading-zero h z =
            let n : eqb start place ≡ false = ne_eqb start place (λ k. omega arith) in
            simp (n, here, z) at read.rest

        pub reading-large : largest < longer → decimal_at field start ≡ None
        reading-large h = read.rest ∙ rw here (large-digit (eqb start place) v place byte later read.none h)

pub ruleset readings = (reading-none, reading-all, reading-other, reading-zero, reading-large)
