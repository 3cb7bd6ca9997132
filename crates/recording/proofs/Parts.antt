-- Where a run lies: parts of parts, and what is taken of a slice that has entries.
-- Assumes nothing.
use Prim.Native.Nat.{ℕ, ◌+◌, ◌-◌, ◌≤◌}
use native.Mathlib.Omega.{arith}
use mathlib.Core.Path.{◌≡◌, refl, sym, ap, ◌∙◌}
use mathlib.Core.List.{List, []}
use lib.ListN.{length, take, drop, length-drop}
use lib.Seq.{length-take-le, take_all, take-take, drop-drop}
use native.Mathlib.Nat.{zero-add}
use Rattle.std.proofs.lemmas.List.{drop-take}
use denote.Bor.{Bor}
use borrow.Rule.Slice.PartAt.{sl_partˢ}
use Rattle.wire.specs.Part.{IsPart}
use Rattle.recording.specs.Left.{LiesIn, StaysIn}
use Rattle.recording.specs.declared.run.Run.{Run}

-- a part of a part
part-of-part : {part middle whole : Bor (List ℕ)} {i m j n : ℕ} → IsPart part middle i m → IsPart middle whole j n → i + m ≤ n → (k : ℕ) → k ≡ j + i → IsPart part whole k m
part-of-part {part} {middle} {whole} {i} {m} {j} {n} p q fits k e =
    record {
      memory = p.memory ∙ q.memory;
      begins = omega (arith, p.begins, q.begins, e);
      bytes = p.bytes ∙ ap (λ bytes. take m (drop i bytes)) q.bytes ∙ inner;
    }
  where
    front : n ≡ i + (n - i)
    front = omega arith

    inner : take m (drop i (take n (drop j whole.now))) ≡ take m (drop k whole.now)
    inner =
        ap (λ size. take m (drop i (take size (drop j whole.now)))) front
        ∙ ap (take m) (drop-take i (n - i) (drop j whole.now))
        ∙ take-take m (n - i) (drop i (drop j whole.now)) (omega arith)
        ∙ ap (take m) (drop-drop i j whole.now)
        ∙ ap (λ place. take m (drop place whole.now)) (sym e)

part-moved : {part whole : Bor (List ℕ)} {at to size : ℕ} → at ≡ to → IsPart part whole at size → IsPart part whole to size
part-moved {part} {whole} {at} {to} {size} e p =
    record {
      memory = p.memory;
      begins = p.begins ∙ ap (λ place. place + whole.ref_ptr.1) e;
      bytes = p.bytes ∙ ap (λ place. take size (drop place whole.now)) e;
    }

-- what is taken of a slice, counted by its own bytes
part-at : (whole : Bor (List ℕ)) (from to : ℕ) → from ≤ to → to ≤ length whole.now →
    let part = sl_partˢ whole (from + whole.ref_ptr.1) from to in (length part.now ≡ to - from) × IsPart part whole from (length part.now)
part-at whole from to order inside =
    (long, record { memory = refl; begins = refl; bytes = ap (λ size. take size (drop from whole.now)) (sym long) })
  where
    long : length (take (to - from) (drop from whole.now)) ≡ to - from
    long = length-take-le (to - from) (drop from whole.now) (omega (arith, length-drop from whole.now))

module _ {whole : Bor (List ℕ)} where
  pub lies-from : {from : ℕ} {run : Run} (to : ℕ) → to ≤ from → LiesIn whole from run → LiesIn whole to run
  lies-from to h l =
      record { place = l.place; further = omega (arith, h, l.further); bytes_there = l.bytes_there; after_there = l.after_there; to_end = l.to_end }

  -- in a part that goes to the end
  pub lies-within : {part : Bor (List ℕ)} {at from : ℕ} {run : Run} → IsPart part whole at (length part.now) → at + length part.now ≡ length whole.now →
      LiesIn part from run → LiesIn whole (at + from) run
  lies-within {part} {at} {from} {run} p ends l =
      record {
        place = at + l.place;
        further = omega (arith, l.further);
        bytes_there = part-of-part l.bytes_there p (omega (arith, l.to_end)) (at + l.place) refl;
        after_there = part-of-part l.after_there p (omega (arith, l.to_end)) (at + l.place + length run.bytes.now) (omega arith);
        to_end = omega (arith, l.to_end, ends);
      }

  -- in the entries after a run
  pub lies-after : {from own : ℕ} {run next : Run} → LiesIn whole from run → LiesIn run.after own next → (to : ℕ) → to ≤ from + length run.bytes.now → LiesIn whole to next
  lies-after {from} {own} {run} l n to h = lies-from to (omega (arith, l.further, h)) (lies-within l.after_there l.to_end n)

-- in what is past a place
pub lies-past : (whole : Bor (List ℕ)) (at : ℕ) {from : ℕ} {run : Run} → at ≤ length whole.now →
    LiesIn (sl_partˢ whole (at + whole.ref_ptr.1) at (length whole.now)) from run → LiesIn whole (at + from) run
lies-past whole at inside l =
    let p = part-at whole at (length whole.now) inside (omega arith) in
    lies-within p.1 (omega (arith, p.0)) l

-- no bytes where all begins, and all after them
pub lies-whole : (kind : ℕ) (bytes whole : Bor (List ℕ)) → bytes.ref_ptr.0 ≡ whole.ref_ptr.0 → bytes.ref_ptr.1 ≡ whole.ref_ptr.1 → bytes.now ≡ [] →
    LiesIn whole 0 (record { kind = kind; bytes = bytes; after = whole })
lies-whole kind bytes whole memory begins none =
    let nothing : length bytes.now ≡ 0 = ap length none in
    record {
      place = 0;
      further = omega arith;
      bytes_there = record { memory = memory; begins = omega (arith, begins); bytes = none ∙ ap (λ size. take size (drop 0 whole.now)) (sym nothing) };
      after_there =
          part-moved (omega (arith, nothing)) (record { memory = refl; begins = sym (zero-add whole.ref_ptr.1); bytes = sym (take_all (length whole.now) whole.now (omega arith)) });
      to_end = omega (arith, nothing);
    }

-- two parts, one after the other up to the end
pub lies-cut : (kind : ℕ) (whole : Bor (List ℕ)) (own past : ℕ) → own ≤ past → past ≤ length whole.now →
    LiesIn whole own (record { kind = kind; bytes = sl_partˢ whole (own + whole.ref_ptr.1) own past; after = sl_partˢ whole (past + whole.ref_ptr.1) past (length whole.now) })
lies-cut kind whole own past order inside =
    let b = part-at whole own past order inside in
    let a = part-at whole past (length whole.now) inside (omega arith) in
    record {
      place = own;
      further = omega arith;
      bytes_there = b.1;
      after_there = part-moved (omega (arith, b.0)) a.1;
      to_end = omega (arith, b.0, a.0);
    }

-- past some bytes of a run: the rest of it, or the entries after it
module _ (run : Run) (count : ℕ) (fits : count ≤ length run.bytes.now) where
  pub stays-rest : StaysIn count run (record { kind = run.kind; bytes = sl_partˢ run.bytes (count + run.bytes.ref_ptr.1) count (length run.bytes.now); after = run.after })
  stays-rest =
      record {
        lies = λ whole from l.
            let b = part-at run.bytes count (length run.bytes.now) fits (omega arith) in
            record {
              place = l.place + count;
              further = omega (arith, l.further);
              bytes_there = part-of-part b.1 l.bytes_there (omega (arith, b.0)) (l.place + count) refl;
              after_there = part-moved (omega (arith, b.0)) l.after_there;
              to_end = omega (arith, b.0, l.to_end);
            };
      }

  pub stays-after : (next : Run) → LiesIn run.after 0 next → StaysIn count run next
  stays-after next n = record { lies = λ whole from l. lies-after l n (from + count) (omega arith) }

pub ruleset stays = (stays-rest, stays-after)
