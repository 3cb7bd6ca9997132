-- A host's command, case by case: refused with 71, refused with 72, accepted.
-- Assumes nothing.
use Rattle.std.specs.Prelude.{Some, None, Ok, Err}
use Prim.Native.Nat.{ℕ, ◌≤◌, ◌<◌}
use native.Mathlib.Omega.{arith}
use mathlib.Core.Path.{◌≡◌, refl, ap, ◌∙◌}
use mathlib.Core.Bool.{Bool, true, false, cond, not}
use mathlib.Core.List.{List}
use lib.Dec.{ltb}
use lib.ListN.{length}
use borrow.Author.Tests.{lt-ltb, le-ltb, ltb-false, le-leb, lt-leb}
use Rattle.numbers.specs.Number.{low_byte}
use Rattle.opcodes.specs.declared.Opcode.{Opcode}
use Rattle.opcodes.specs.declared.Opcode.TheVariants.{Write, Read, Copy, Erase, Run, ReadQspi, Version, ChipErase, DirectWrite}
use Rattle.opcodes.specs.Opcode.{opcode_number, opcode_of, has_length}
use Rattle.opcodes.proofs.Opcodes.{opcode-number}
use Rattle.host_command.specs.declared.Refusal.TheVariants.{BadCommand, ShortAnswer}
use Rattle.host_command.specs.declared.Exchange.{Exchange}
use Rattle.host_command.specs.Exchange.{Lent, lent, follows_command, exchange_of, exchange, awaited_of, awaited}
use Rattle.host_command.specs.Refusal.{bad_command, short_answer, longest_payload, is_command, refusal_of, refusal_number, refusal_with, judged_of}

-- an opcode's number has one byte
one_byte : (opcode : Opcode) → low_byte (opcode_number opcode) ≡ opcode_number opcode
one_byte Write = refl
one_byte Read = refl
one_byte Copy = refl
one_byte Erase = refl
one_byte Run = refl
one_byte ReadQspi = refl
one_byte Version = refl
one_byte ChipErase = refl
one_byte DirectWrite = refl

pub number-byte : (n : ℕ) (opcode : Opcode) → opcode_of n ≡ Some opcode → low_byte n ≡ n
number-byte n opcode e = rw (← opcode-number n opcode e) (one_byte opcode)

module _ (c : Lent) where
  no-command : is_command (opcode_of c.opcode) (length c.payload) ≡ false → Err BadCommand ≡ judged_of c
  unfolding refusal_of
  no-command e = rw e refl

  module _ (e : is_command (opcode_of c.opcode) (length c.payload) ≡ true) where
    pub no_room : length c.answer < awaited c → Err ShortAnswer ≡ judged_of c
    unfolding refusal_of
    no_room h = rw (e, lt-ltb _ _ h) refl

    pub good : awaited c ≤ length c.answer → Ok (exchange c) ≡ judged_of c
    unfolding refusal_of
    good h = rw (e, le-ltb _ _ h) refl

pub unknown : (n : ℕ) (payload answer : List ℕ) → opcode_of n ≡ None → Err BadCommand ≡ judged_of (lent n payload answer)
unknown n payload answer e = no-command (lent n payload answer) (rw e refl)

module _ (n : ℕ) (payload answer : List ℕ) (opcode : Opcode) (known : opcode_of n ≡ Some opcode) where
  abbrev c : Lent
  c = lent n payload answer

  pub unfit : has_length opcode (length payload) ≡ false → Err BadCommand ≡ judged_of c
  unfit e = no-command c (rw (known, e) refl)

  module _ (has : has_length opcode (length payload) ≡ true) where
    pub long : longest_payload < length payload → Err BadCommand ≡ judged_of c
    long h = no-command c (rw (known, has, lt-leb _ _ h) refl)

    module _ (short : length payload ≤ longest_payload) where
      is_one : is_command (opcode_of n) (length payload) ≡ true
      is_one = rw (known, has, le-leb _ _ short) refl

      follows_is : (exchange_of n payload).follows ≡ follows_command opcode payload
      unfolding exchange_of
      follows_is = rw known refl

      pub cramped : length answer < awaited_of (follows_command opcode payload) → Err ShortAnswer ≡ judged_of c
      cramped h = no_room c is_one (rw follows_is h)

      same-exchange : ◌≡◌ {A = Exchange} (record { opcode = low_byte n; size = length payload; follows = follows_command opcode payload }) (exchange_of n payload)
      unfolding exchange_of
      same-exchange = rw (number-byte n opcode known, known) refl

      pub taken : awaited_of (follows_command opcode payload) ≤ length answer →
          Ok (record { opcode = low_byte n; size = length payload; follows = follows_command opcode payload }) ≡ judged_of c
      taken h = ap Ok same-exchange ∙ good c is_one (rw follows_is h)

pub ruleset judgements = (unknown, unfit, long, cramped, taken)

-- a refused command's refusal has the number that the definition gives
pub has-number : (c : Lent) → (refusal_of c ≡ 0 → ⊥) → refusal_number (refusal_with (refusal_of c)) ≡ refusal_of c
unfolding refusal_of
has-number c h = go (is_command (opcode_of c.opcode) (length c.payload)) (ltb (length c.answer) (awaited c)) h
  where
    go : (x y : Bool) → let n = cond (not x) bad_command (cond y short_answer 0) in (n ≡ 0 → ⊥) → refusal_number (refusal_with n) ≡ n
    go false y h = refl
    go true true h = refl
    go true false h = absurd (h refl)

-- what is known of an accepted command: it is one, and its answer has room
pub record Fits (c : Lent) : Type 0 where
  pub is-command : is_command (opcode_of c.opcode) (length c.payload) ≡ true
  pub has_room : awaited c ≤ length c.answer

pub fits : (c : Lent) → refusal_of c ≡ 0 → Fits c
unfolding refusal_of
fits c e = go (is_command (opcode_of c.opcode) (length c.payload)) (ltb (length c.answer) (awaited c)) refl refl e
  where
    go : (x y : Bool) → is_command (opcode_of c.opcode) (length c.payload) ≡ x → ltb (length c.answer) (awaited c) ≡ y →
        ◌≡◌ {A = ℕ} (cond (not x) bad_command (cond y short_answer 0)) 0 → Fits c
    go true true a b z = absurd (let w : ⊥ = omega arith in w)
    go true false a b z = record { is-command = a; has_room = ltb-false _ _ b }
    go false y a b z = absurd (let w : ⊥ = omega arith in w)
