-- A call, action by action, as a program's loop makes it.
-- Assumes nothing.
use Prim.Native.Nat.{ℕ, ◌+◌, ◌-◌, ◌≤◌, ◌<◌}
use native.Mathlib.Omega.{arith}
use native.Mathlib.Nat.{add-zero, sub-zero}
use native.Mathlib.Numerals.{add-one}
use mathlib.Core.Path.{◌≡◌, refl, sym, ap, ◌∙◌}
use mathlib.Core.List.{List, [], ◌∷◌, ◌++◌, append-nil}
use lib.ListN.{length, take, drop, get_or, set, length-set, length-drop, take-append-drop}
use lib.Seq.{drop-cons, take-suc-set, drop-set-lt, drop-drop, length-take-le}
use borrow.Author.Tests.{lt-ltb, le-ltb}
use Rattle.machine.specs.Machine as machine
use Rattle.machine.specs.Machine.{acts, runs, Machine}
use Rattle.machine.specs.Outcome.{halt, acted, join}
use Rattle.machine.specs.Call.{standing, call}
use Rattle.machine.specs.Lawful.{Lawful}
use Rattle.machine.specs.Loop.{Acted}
use Rattle.machine.proofs.Outcomes.{halt-join, join-halt, join-assoc}
use Rattle.machine.proofs.Actions.{call-run, call-short, call-full, call-act}

-- a call at s₀ has come to s, with i symbols taken and j bytes sent: what is left of it is the call at s with the rest
pub record Reached {A S : Type 0} (m : Machine A S) (s₀ : S) (input : List A) (old : List ℕ) (s : S) (i j : ℕ) (reply : List ℕ) : Type 0 where
  pub taken-fits : i ≤ length input
  pub sent-fits : j ≤ length reply
  pub same_length : length reply ≡ length old
  pub rest-same : drop j reply ≡ drop j old
  pub goes_on : call m s₀ input (length old) ≡ join (acted (take j reply) i s) (call m s (drop i input) (length old - j))

module _ {A S : Type 0} (m : Machine A S) (s₀ : S) (input : List A) (old : List ℕ) where
  pub reached-start : Reached m s₀ input old s₀ 0 0 old
  reached-start = record {
    taken-fits = omega arith;
    sent-fits = omega arith;
    same_length = refl;
    rest-same = refl;
    goes_on = rw (sub-zero) (sym (halt-join s₀ (call m s₀ input (length old))));
  }

  module _ (s : S) (i j : ℕ) (reply : List ℕ) (r : Reached m s₀ input old s i j reply) where
    -- one action
    pub reached-act : {Good : A → Type 0} {Sound : S → Type 0} → Lawful m Good Sound → (views : ℕ) → m.need s ≡ acts views →
        i + views ≤ length input →
        let view = take views (drop i input) in
        let said = m.says s view in
        let takes = m.takes s view in
        j + length said ≤ length reply → (reply' : List ℕ) → length reply' ≡ length reply → take (j + length said) reply' ≡ take j reply ++ said →
        drop (j + length said) reply' ≡ drop (j + length said) reply → Reached m s₀ input old (m.after s view) (i + takes) (j + length said) reply'
    reached-act law views e h f reply' l front back =
        let view = take views (drop i input) in
        let said = m.says s view in
        let rest = drop i input in
        let left : length rest ≡ length input - i = length-drop i input in
        let shown : views ≤ length rest = omega (arith, h, r.taken-fits) in
        let room : length said ≤ length old - j = omega (arith, f, r.same_length) in
        let takes = m.takes s view in
        let inside : takes ≤ views = rw (length-take-le views rest shown) at (law.takes_in_view s view) in
        let less : length old - j - length said ≡ length old - (j + length said) = omega (arith, f, r.same_length) in
        let after = call m (m.after s view) (drop (i + takes) input) (length old - (j + length said)) in
        record {
          taken-fits = omega (arith, h, inside);
          sent-fits = omega (arith, f, l);
          same_length = l ∙ r.same_length;
          rest-same = back ∙ sym (drop-drop (length said) j reply) ∙ ap (drop (length said)) r.rest-same ∙ drop-drop (length said) j old;
          goes_on =
              r.goes_on
              ∙ ap (join (acted (take j reply) i s)) (call-act m law s rest (length old - j) views e shown room)
              ∙ rw (less, drop-drop takes i input, front) (sym (join-assoc (acted (take j reply) i s) (acted said takes (m.after s view)) after));
        }

    -- one that sends nothing, and one that sends a byte
    module _ {Good : A → Type 0} {Sound : S → Type 0} (law : Lawful m Good Sound) (views : ℕ) (e : m.need s ≡ acts views) (h : i + views ≤ length input) where
      pub reached-silent : let view = take views (drop i input) in m.says s view ≡ [] → Reached m s₀ input old (m.after s view) (i + m.takes s view) j reply
      reached-silent q =
          rw (q, add-zero) at
          (reached-act law views e h (rw (q, add-zero) r.sent-fits) reply refl (rw (q, add-zero) (sym (append-nil (take j reply)))) (rw q refl))

      pub reached-byte : (b : ℕ) → let view = take views (drop i input) in m.says s view ≡ b ∷ [] → j < length reply →
          Reached m s₀ input old (m.after s view) (i + m.takes s view) (j + 1) (set reply j b)
      reached-byte b q f =
          rw q at
          (reached-act law views e h (rw q (omega arith)) (set reply j b) (length-set reply j b)
          (rw (q, add-one) (take-suc-set reply j b f)) (rw q (drop-set-lt (j + 1) reply j b (omega arith))))

    -- where the loop stops, the call has stopped
    done : (stands : ℕ) → call m s (drop i input) (length old - j) ≡ halt s → stands ≡ standing m s (drop i input) → Acted m s₀ input old i j stands s reply
    done stands e f =
        let whole : call m s₀ input (length old) ≡ acted (take j reply) i s = r.goes_on ∙ ap (join (acted (take j reply) i s)) e ∙ join-halt (acted (take j reply) i s) in
        let count : length (take j reply) ≡ j = length-take-le j reply r.sent-fits in
        record {
          taken_is = rw whole refl;
          sent_is = rw (whole, count) refl;
          stands_is = rw whole f;
          final_is = rw whole refl;
          reply_is = rw (whole, count, ← r.rest-same) (sym (take-append-drop j reply));
        }

    pub acted-runs : m.need s ≡ runs → Acted m s₀ input old i j 3 s reply
    acted-runs e = done 3 (call-run m s (drop i input) (length old - j) e) (rw e refl)

    pub acted-short : (views : ℕ) → m.need s ≡ acts views → length input < i + views → Acted m s₀ input old i j 1 s reply
    acted-short views e h =
        let short : length (drop i input) < views = omega (arith, length-drop i input, r.taken-fits) in
        done 1 (call-short m s (drop i input) (length old - j) views e short) (rw (e, lt-ltb _ _ short) refl)

    pub acted-full : (views : ℕ) → m.need s ≡ acts views → i + views ≤ length input →
        length reply < j + length (m.says s (take views (drop i input))) → Acted m s₀ input old i j 2 s reply
    acted-full views e h f =
        let shown : views ≤ length (drop i input) = omega (arith, length-drop i input, r.taken-fits) in
        let full : length old - j < length (m.says s (take views (drop i input))) = omega (arith, f, r.same_length, r.sent-fits) in
        done 2 (call-full m s (drop i input) (length old - j) views e full) (rw (e, le-ltb _ _ shown) refl)

-- an action that takes one symbol and sends nothing, and one that sends a byte with nothing in view
module _ {A S : Type 0} (m : Machine A S) {Good : A → Type 0} {Sound : S → Type 0} (law : Lawful m Good Sound) {s₀ : S} {input : List A} {old : List ℕ}
    {s : S} {i j : ℕ} {reply : List ℕ} (r : Reached m s₀ input old s i j reply) where
  -- whether it takes the symbol or leaves it
  pub reached-look : (d : A) → m.need s ≡ machine.take_one → i < length input → let view = get_or input i d ∷ [] in m.says s view ≡ [] →
      Reached m s₀ input old (m.after s view) (i + m.takes s view) j reply
  reached-look d e h q =
      let view : take 1 (drop i input) ≡ get_or input i d ∷ [] = rw (drop-cons input i d h) refl in
      rw view at (reached-silent m s₀ input old s i j reply r law 1 e (omega arith) (rw view q))

  pub reached-take : (d : A) → m.need s ≡ machine.take_one → i < length input → let view = get_or input i d ∷ [] in m.says s view ≡ [] → m.takes s view ≡ 1 →
      Reached m s₀ input old (m.after s view) (i + 1) j reply
  reached-take d e h q one = rw one at (reached-look d e h q)

  pub reached-send : m.need s ≡ machine.send_one → (b : ℕ) → m.says s [] ≡ b ∷ [] → j < length reply → Reached m s₀ input old (m.after s []) i (j + 1) (set reply j b)
  reached-send e b q h =
      let none : m.takes s [] ≡ 0 = omega (arith, law.takes_in_view s []) in
      rw (none, add-zero) at (reached-byte m s₀ input old s i j reply r law 0 e (omega (arith, r.taken-fits)) b q h)

  pub acted-hungry : m.need s ≡ machine.take_one → length input ≤ i → Acted m s₀ input old i j 1 s reply
  acted-hungry e h = acted-short m s₀ input old s i j reply r 1 e (omega arith)

  pub acted-choked : m.need s ≡ machine.send_one → 0 < length (m.says s []) → length reply ≤ j → Acted m s₀ input old i j 2 s reply
  acted-choked e speaks h = acted-full m s₀ input old s i j reply r 0 e (omega (arith, r.taken-fits)) (omega arith)
