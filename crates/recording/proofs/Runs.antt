-- Runs, and what is left from one on.
-- Assumes nothing.
use Prim.Native.Nat.{ℕ, ◌+◌, ◌-◌, ◌≤◌, ◌<◌}
use native.Mathlib.Omega.{arith}
use mathlib.Core.Path.{◌≡◌, refl, sym, ap, ◌∙◌}
use mathlib.Core.List.{List, [], ◌∷◌, ◌++◌}
use lib.ListN.{length, get_or, take, drop, length-drop}
use Rattle.std.proofs.lemmas.List.{take_rest}
use lib.Seq.{take_at}
use borrow.Author.Tests.{eq-eqb, ne_eqb}
use denote.Bor.{Bor}
use borrow.Rule.Slice.PartAt.{sl_partˢ}
use Rattle.recording.specs.Form.{entry_head, kind_in, size_in, own_bytes, past_entry, entry_fault}
use Rattle.recording.specs.Recording.{joined_in}
use Rattle.recording.specs.Left.{left_from, left_in, Readable, IsRun, Leaves, StaysIn}
use Rattle.recording.specs.declared.run.Run.{Run}
use Rattle.recording.proofs.Entries.{no-entries, whole-entry, first_good, fault-later, joined-later}
use Rattle.recording.proofs.Parts.{lies-from, lies-after, lies-cut}

pub empty : (bytes : List ℕ) → length bytes ≤ 0 → bytes ≡ []
empty [] h = refl
empty (byte ∷ bytes) h = absurd (let z : ⊥ = omega arith in z)

-- the first of some entries
module _ (entries : List ℕ) (there : 0 < length entries) (r : Readable entries) where
  good : entry_fault entries ≡ 0
  good = first_good entries there r.no_fault

  pub whole : entry_head + size_in entries ≤ length entries
  whole = whole-entry entries good

  readable-past : Readable (past_entry entries)
  readable-past = record { no_fault = sym (fault-later entries there good) ∙ r.no_fault }

  pub of-kind : (kind : ℕ) → kind_in entries ≡ kind → left_from kind entries ≡ own_bytes entries ++ left_from kind (past_entry entries)
  of-kind kind e = joined-later kind entries there r.no_fault ∙ rw (eq-eqb _ _ e) refl

  pub of-other : (kind : ℕ) → (kind_in entries ≡ kind → ⊥) → left_from kind entries ≡ left_from kind (past_entry entries)
  of-other kind n = joined-later kind entries there r.no_fault ∙ rw (ne_eqb _ _ n) refl

-- a search that began at one run has come to another, and never left what that lay in
pub record Finding (kind : ℕ) (entries : List ℕ) (begun run : Run) : Type 0 where
  pub readable : Readable run.after.now
  pub same_kind : run.kind ≡ kind
  pub same : left_in run ≡ left_from kind entries
  pub within : length run.after.now ≤ length entries
  pub stays : StaysIn 0 begun run

-- the parts of a slice that an entry is cut into
abbrev pub cut : (kind : ℕ) (rest : Bor (List ℕ)) (own past : ℕ) → Run
cut kind rest own past =
    record { kind = kind; bytes = sl_partˢ rest (own + rest.ref_ptr.1) own past; after = sl_partˢ rest (past + rest.ref_ptr.1) past (length rest.now) }

-- no bytes, and all entries after them
pub begins : (kind : ℕ) (bytes entries : Bor (List ℕ)) → bytes.now ≡ [] → Readable entries.now →
    let run : Run = record { kind = kind; bytes = bytes; after = entries } in Finding kind entries.now run run
begins kind bytes entries none r =
    record {
      readable = r;
      same_kind = refl;
      same = ap (λ b. b ++ left_from kind entries.now) none;
      within = omega arith;
      stays = record { lies = λ whole from l. lies-from (from + 0) (omega arith) l };
    }

module _ {kind : ℕ} {entries : List ℕ} {begun run : Run} (f : Finding kind entries begun run) where
  -- the run has no bytes, and an entry is after it
  module _ (none : length run.bytes.now ≤ 0) (there : 0 < length run.after.now) where
    abbrev rest : List ℕ
    rest = run.after.now

    left-after : left_from kind rest ≡ left_from kind entries
    left-after = ap (λ (k : ℕ). left_from k rest) (sym f.same_kind) ∙ ap (λ bytes. bytes ++ left_from run.kind rest) (sym (empty run.bytes.now none)) ∙ f.same

    pub head-there : entry_head ≤ length rest
    head-there = omega (arith, whole rest there f.readable)

    module _ (past : ℕ) (is : past ≡ entry_head + size_in rest) where
      pub past-there : past ≤ length rest
      past-there = omega (arith, is, whole rest there f.readable)

      later : take (length rest - past) (drop past rest) ≡ past_entry rest
      later = take_rest rest past ∙ ap (λ place. drop place rest) is

      pub shorter : length (take (length rest - past) (drop past rest)) < length rest
      shorter = omega (arith, ap length later, length-drop (entry_head + size_in rest) rest, there)

      goes-on : (own : ℕ) → own ≤ past → left_in (cut kind run.after own past) ≡ left_from kind rest → Finding kind entries begun (cut run.kind run.after own past)
      goes-on own order e =
          record {
            readable = rw later (readable-past rest there f.readable);
            same_kind = f.same_kind;
            same = rw f.same_kind (e ∙ left-after);
            within = omega (arith, shorter, f.within);
            stays = record { lies = λ whole from l. lies-after (f.stays.lies whole from l) (lies-cut run.kind run.after own past order past-there) (from + 0) (omega arith) };
          }

      pub own_kind : kind_in rest ≡ kind → Finding kind entries begun (cut run.kind run.after entry_head past)
      own_kind e =
          let size : past - entry_head ≡ size_in rest = omega (arith, is) in
          goes-on entry_head (omega (arith, is)) (rw (size, later) (sym (of-kind rest there f.readable kind e)))

      pub other_kind : (kind_in rest ≡ kind → ⊥) → Finding kind entries begun (cut run.kind run.after past past)
      other_kind n =
          let none : past - past ≡ 0 = omega arith in
          goes-on past (omega arith) (rw (none, later) (sym (of-other rest there f.readable kind n)))

  -- the run has bytes, or no entry is left
  pub found : (run.bytes.now ≡ [] → run.after.now ≡ []) → Leaves kind (left_from kind entries) run
  found over = record { is_run = record { readable = f.readable; at_end = over }; same_kind = f.same_kind; left_is = f.same }

-- the first byte that is left, and that none is
module _ (run : Run) where
  pub first-left : 0 < length run.bytes.now → left_in run ≡ get_or run.bytes.now 0 0 ∷ drop 1 (left_in run)
  first-left h = go run.bytes.now h
    where
      go : (bytes : List ℕ) → 0 < length bytes → let all = bytes ++ left_from run.kind run.after.now in all ≡ get_or bytes 0 0 ∷ drop 1 all
      go [] h = absurd (let z : ⊥ = omega arith in z)
      go (byte ∷ bytes) h = refl

  pub none_left : IsRun run → run.bytes.now ≡ [] → left_in run ≡ []
  none_left is e = rw (e, is.at_end e) (ap (joined_in run.kind) no-entries)

  -- the run is the front of what is left
  pub run-shown : take (length run.bytes.now) (left_in run) ≡ run.bytes.now
  run-shown = take_at run.bytes.now (left_from run.kind run.after.now) (length run.bytes.now) refl
