-- Laws of the opcodes: their numbers, and the payloads that they have.
-- Assumes nothing.
use Rattle.std.specs.Prelude.{Option, Some, None}
use Rattle.std.specs.Option.{option_map}
use Prim.Native.Nat.{ℕ, ◌≤◌}
use mathlib.Core.Path.{◌≡◌, refl}
use mathlib.Core.Bool.{Bool, true, false, cond}
use mathlib.Core.List.{List, [], ◌∷◌}
use lib.Dec.{eqb, ltb}
use native.Mathlib.Omega.{arith}
use borrow.Author.Tests.{eqb-true, ltb-true}
use Rattle.std.specs.List.{find}
use borrow.Table.Steps.{cases}
use Rattle.wire.proofs.Tests.{in-cond}
use Rattle.opcodes.specs.declared.Opcode.{Opcode}
use Rattle.opcodes.specs.declared.Opcode.TheVariants.{Write, Read, Copy, Erase, Run, ReadQspi, Version, ChipErase, DirectWrite}
use Rattle.opcodes.specs.Opcode.{shape_of, opcodes, opcode_number, among_these, opcode_of, has_length, data_place, is_run}

-- an opcode's number stands for it, and no other number does
pub opcode-back : (opcode : Opcode) → opcode_of (opcode_number opcode) ≡ Some opcode
unfolding opcode_of
opcode-back Write = refl
opcode-back Read = refl
opcode-back Copy = refl
opcode-back Erase = refl
opcode-back Run = refl
opcode-back ReadQspi = refl
opcode-back Version = refl
opcode-back ChipErase = refl
opcode-back DirectWrite = refl

-- the first opcode with the number is the one that a search finds
find-among : (these : List Opcode) (n : ℕ) → find (λ (o : Opcode). eqb (opcode_number o) n) these ≡ among_these these n
find-among [] n = refl
find-among (o ∷ others) n = rw (find-among others n) refl

-- what `copied` leaves of what was found
pub same-option : (r : Option Opcode) → r ≡ option_map (λ x. x) r
same-option (Some x) = refl
same-option None = refl

pub find_opcode : (n : ℕ) → find (λ (o : Opcode). eqb (opcode_number o) n) opcodes ≡ opcode_of n
unfolding opcode_of
find_opcode n = find-among opcodes n

found_number : (these : List Opcode) (n : ℕ) (opcode : Opcode) → among_these these n ≡ Some opcode → opcode_number opcode ≡ n
found_number [] n opcode = λ e. cc
found_number (o ∷ others) n opcode =
    in-cond (λ (l : Option Opcode). l ≡ Some opcode → opcode_number opcode ≡ n) (eqb (opcode_number o) n) (Some o) (among_these others n)
    (λ t e. let same : opcode_number o ≡ n = eqb-true (opcode_number o) n t in cc)
    (λ t. found_number others n opcode)

pub opcode-number : (n : ℕ) (opcode : Opcode) → opcode_of n ≡ Some opcode → opcode_number opcode ≡ n
unfolding opcode_of
opcode-number n opcode e = found_number opcodes n opcode e

long-enough : (more : Bool) (fixed n : ℕ) → cond more (ltb fixed n) (eqb n fixed) ≡ true → fixed ≤ n
long-enough true fixed n e = omega (arith, ltb-true fixed n e)
long-enough false fixed n e = omega (arith, eqb-true n fixed e)

-- a payload holds its numbers
pub never-shorter : (opcode : Opcode) (n : ℕ) → has_length opcode n ≡ true → data_place opcode ≤ n
never-shorter opcode n e = long-enough (shape_of opcode).has_data (data_place opcode) n e

-- only Run has its number
run_alone : (opcode : Opcode) → is_run opcode ≡ true → opcode ≡ Run
run_alone opcode e =
    let same : opcode_number opcode ≡ opcode_number Run = eqb-true _ _ e in
    let back : opcode_of (opcode_number opcode) ≡ Some opcode = opcode-back opcode in
    let run : opcode_of (opcode_number Run) ≡ Some Run = opcode-back Run in
    cc

-- Run has a payload
pub bare-never-run : (opcode : Opcode) (n : ℕ) → has_length opcode n ≡ true → n ≡ 0 → is_run opcode ≡ false
bare-never-run opcode n h e =
    cases (is_run opcode)
    (λ r. let long : data_place Run ≤ n = never-shorter Run n (rw (run_alone opcode r) at h) in absurd (omega arith))
    (λ r. r)
