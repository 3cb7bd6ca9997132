-- Replies held to recorded bytes, one after the other.
-- Assumes nothing.
use Prim.Native.Nat.{ℕ, suc, ◌+◌, ◌^◌, ◌≤◌, ◌<◌}
use native.Mathlib.Omega.{arith}
use native.Mathlib.Numerals.{add-one}
use mathlib.Core.Path.{◌≡◌, refl, sym, ap, ◌∙◌}
use mathlib.Core.Bool.{true, false}
use mathlib.Core.List.{List, [], ◌∷◌, ◌++◌}
use lib.Dec.{eqb, ltb}
use lib.ListN.{length, get_or, drop, length-drop, drop_of_length-le}
use lib.Seq.{drop-cons}
use borrow.Author.Tests.{ltb-true, ltb-false}
use borrow.Table.Steps.{cases}
use denote.Bor.{Bor}
use Rattle.std.specs.Prelude.{Option, None, Some, slice_get, Result, Ok, Err, IfOk}
use Rattle.std.proofs.lemmas.Result.{IfOk-at_ok}
use Rattle.std.specs.Option.{option_eq, option_copied}
use Rattle.recording.specs.Left.{left_in, IsRun, Leaves, StaysIn}
use Rattle.recording.specs.declared.run.Run.{Run}
use Rattle.recording.proofs.Runs.{empty, first-left, none_left}
use Rattle.recording.proofs.Parts.{lies-from}
use Rattle.visit.specs.Compared.{differs, compared_from}
use Rattle.visit.specs.Held.{is_next, verdict_of, IsHeld, HeldIn, Holds}
use Rattle.visit.specs.Replay.{answer_of}
use Rattle.visit.specs.declared.held.Held.{Held}

abbrev pub held_of : (run : Run) (place : ℕ) → Held
held_of run place = record { run = run; place = place }

-- a byte held to the next of a run, both behind references
pub same-next : (next : Option (Bor ℕ)) (byte : Bor ℕ) → option_eq (λ (x y : Bor ℕ). eqb x.now y.now) next (Some byte) ≡ option_eq eqb (option_copied next) (Some byte.now)
same-next None byte = refl
same-next (Some next) byte = refl

pub next-is : (byte : ℕ) (run : Run) → IsRun run → is_next byte (left_in run) ≡ option_eq eqb (slice_get run.bytes.now 0) (Some byte)
next-is byte run is = go run.bytes.now refl
  where
    go : (bytes : List ℕ) → run.bytes.now ≡ bytes → is_next byte (left_in run) ≡ option_eq eqb (slice_get bytes 0) (Some byte)
    go [] e = rw (none_left run is e) refl
    go (next ∷ bytes) e = rw (first-left run (omega (arith, ap length e))) (rw e refl)

pub ruleset nexts = (next-is, same-next)

-- of no bytes none is next
never-next : (byte : ℕ) → is_next byte [] ≡ true → ⊥
never-next byte e = let z : ◌≡◌ {A = ℕ} 0 1 = cc in omega arith

-- what the next byte does to the comparison
differs-here : (place : ℕ) (left : List ℕ) (byte : ℕ) (more : List ℕ) → is_next byte left ≡ false → compared_from place left (byte ∷ more) ≡ differs place
differs-here place [] byte more e = refl
differs-here place (next ∷ left) byte more e = rw e refl

agrees-here : (place : ℕ) (left : List ℕ) (byte : ℕ) (more : List ℕ) → is_next byte left ≡ true → compared_from place left (byte ∷ more) ≡ compared_from (suc place) (drop 1 left) more
agrees-here place [] byte more e = absurd (never-next byte e)
agrees-here place (next ∷ left) byte more e = rw e refl

-- i of the replies agreed
pub record Going (held : Result Held ℕ) (replies : List ℕ) (i : ℕ) (now : Held) : Type 0 where
  pub is_held : IsHeld now
  pub verdict : (more : List ℕ) → verdict_of held (replies ++ more) ≡ compared_from now.place (left_in now.run) (drop i replies ++ more)
  pub lies : (whole : Bor (List ℕ)) (from : ℕ) → IfOk held (HeldIn whole from) → HeldIn whole from now

-- none yet; a comparison that is over stays
pub going-first : (held : Result Held ℕ) (replies : List ℕ) (now : Held) → held ≡ Ok now → IsHeld now → Going held replies 0 now
going-first held replies now e h = record { is_held = h; verdict = λ more. rw e refl; lies = λ whole from l. IfOk-at_ok (HeldIn whole from) e l }

pub settled : (held : Result Held ℕ) (replies : List ℕ) (place : ℕ) → held ≡ Err place → Holds held replies (Err place)
settled held replies place e = record { is_held = tt; verdict = λ more. rw e refl; lies = λ whole from l. tt }

module _ {held : Result Held ℕ} {replies : List ℕ} {i : ℕ} {now : Held} (g : Going held replies i now) where
  -- all agreed
  pub all-agreed : length replies ≤ i → Holds held replies (Ok now)
  all-agreed h = record { is_held = g.is_held; verdict = λ more. g.verdict more ∙ rw (drop_of_length-le replies h) refl; lies = g.lies }

  module _ (there : i < length replies) (byte : ℕ) (is : byte ≡ get_or replies i 0) where
    -- the next reply
    next : (more : List ℕ) → drop i replies ++ more ≡ byte ∷ (drop (suc i) replies ++ more)
    next more = rw (drop-cons replies i 0 there, is) refl

    -- it is not what is recorded next
    pub other_byte : is_next byte (left_in now.run) ≡ false → Holds held replies (Err now.place)
    other_byte e =
        record {
          is_held = tt;
          verdict = λ more. g.verdict more ∙ rw (next more) (differs-here now.place (left_in now.run) byte (drop (suc i) replies ++ more) e);
          lies = λ whole from l. tt;
        }

    -- it is
    module _ (e : is_next byte (left_in now.run) ≡ true) where
      pub one-there : 1 ≤ length now.run.bytes.now
      one-there =
          cases (ltb 0 (length now.run.bytes.now)) (λ t. ltb-true _ _ t)
          (λ f.
          let none = none_left now.run g.is_held.is_run (empty now.run.bytes.now (ltb-false _ _ f)) in
          absurd (never-next byte (sym (ap (is_next byte) none) ∙ e)))

      some-left : 1 ≤ length (left_in now.run)
      some-left = omega (arith, one-there, ap length (first-left now.run one-there))

      pub place-fits : now.place + 1 < 2 ^ 64
      place-fits = omega (arith, some-left, g.is_held.counted)

      pub same_byte : (run : Run) → Leaves now.run.kind (drop 1 (left_in now.run)) run → StaysIn 1 now.run run → Going held replies (i + 1) (held_of run (now.place + 1))
      same_byte run l stays =
          record {
            is_held = record {
              is_run = l.is_run;
              of_device = l.same_kind ∙ g.is_held.of_device;
              counted = omega (arith, ap length l.left_is, length-drop 1 (left_in now.run), some-left, g.is_held.counted);
            };
            verdict = λ more.
                g.verdict more
                ∙ ap (compared_from now.place (left_in now.run)) (next more)
                ∙ agrees-here now.place (left_in now.run) byte (drop (suc i) replies ++ more) e
                ∙ rw (← l.left_is, ← add-one i, ← add-one now.place) refl;
            lies = λ whole from h. lies-from (from + (now.place + 1)) (omega arith) (stays.lies whole (from + now.place) (g.lies whole from h));
          }

-- the answer where no more replies come
module _ (held : Held) (h : IsHeld held) where
  pub answer-equal : length held.run.bytes.now ≤ 0 → answer_of (verdict_of (Ok held) []) ≡ record { number = 0; equal = 1; place = 0 }
  answer-equal none = rw (none_left held.run h.is_run (empty held.run.bytes.now none)) refl

  pub answer-more : 0 < length held.run.bytes.now → answer_of (verdict_of (Ok held) []) ≡ record { number = 0; equal = 0; place = held.place }
  answer-more some = ap (λ left. answer_of (compared_from held.place left [])) (first-left held.run some)
