-- Bytes taken one by one into a memory are one copy into it; bytes sent one by one from a memory are one copy into the reply.
-- Assumes nothing.
use Prim.Native.Nat.{ℕ, zero, suc, ◌+◌, ◌-◌, ◌<◌, ◌≤◌, min}
use native.Mathlib.Omega.{arith}
use native.Mathlib.Nat.{add-zero, add-suc}
use native.Mathlib.Numerals.{add-one}
use mathlib.Core.Path.{◌≡◌, refl, ap, subst, ◌∙◌}
use mathlib.Core.List.{List, [], ◌∷◌}
use lib.ListN.{length, get_or, set, take, drop, length-drop}
use lib.Seq.{get_or-drop, get_or-take, length-take-le, paste, paste-zero, paste-suc}
use Rattle.memory.specs.Copy.{Copied}
use Rattle.machine.specs.Machine as machine
use Rattle.machine.specs.Machine.{Machine}
use Rattle.machine.specs.Does.{Does, takes, sends, need_of, took_of, sent_of, byte_of, line_of}
use Rattle.machine.specs.Steps.{Takes, Sends, Taken, Sent}
use Rattle.machine.specs.Steps as steps
use Rattle.machine.proofs.Repeats.{sends-length}

-- a machine that is given by one table, and by how many of the symbols in view it takes
abbrev pub tabled : {S : Type 0} → (S → Does ℕ S) → (S → ℕ) → (S → List ℕ → ℕ) → Machine ℕ S
tabled does due count = record { need = (line_of does due).need; after = (line_of does due).after; says = (line_of does due).says; takes = count; due = due }

module _ {S : Type 0} (does : S → Does ℕ S) (due : S → ℕ) (count : S → List ℕ → ℕ) where
  abbrev m : Machine ℕ S
  m = tabled does due count

  -- one byte taken, and one sent
  pub one-taken : (input : List ℕ) (i : ℕ) (s t : S) → need_of (does s) ≡ machine.take_one → count s (get_or input i 0 ∷ []) ≡ 1 → i < length input →
      t ≡ took_of (does s) s (get_or input i 0) → Taken m input i s 1 t
  one-taken input i s t e one h f =
      let here : i + 0 < length input = omega arith in
      let all : Takes m input i s 1 (took_of (does s) s (get_or input (i + 0) 0)) = steps.more steps.none e (rw (add-zero i) one) here in
      record { some = omega arith; takes = rw f (rw (add-zero i) at all) }

  pub one-sent : (old : List ℕ) (j : ℕ) (s t : S) (b : ℕ) → does s ≡ sends b t → j < length old → Sent m s j old 1 t (set old j b)
  one-sent old j s t b e h =
      let here : j + 0 < length old = omega arith in
      let all : Sends m s j old 1 (sent_of (does s) s) (set old (j + 0) (byte_of (does s))) = steps.more steps.none (ap need_of e) refl here in
      record { some = omega arith; sends = rw (add-zero, e) at all }

  -- at memory k: with k of `end` bytes in, and what the memory then holds
  module _ (at : (memory : List ℕ) (k : ℕ) → S) (end : ℕ)
      (next : (memory : List ℕ) (k : ℕ) → k < end → does (at memory k) ≡ takes (λ b. at (set memory k b) (k + 1)))
      (one : (memory : List ℕ) (k b : ℕ) → k < end → count (at memory k) (b ∷ []) ≡ 1)
      (input : List ℕ) (i : ℕ) (old : List ℕ) (p : ℕ) (fits : end ≤ length old) where
    take-run : (q : ℕ) → q ≤ end - p → i + q ≤ length input → Takes m input i (at old p) q (at (paste old p (drop i input) q) (p + q))
    take-run zero h l = rw (← paste-zero old p (drop i input), add-zero p) steps.none
    take-run (suc q) h l =
        let memory = paste old p (drop i input) q in
        let b = get_or input (i + q) 0 in
        let s = at memory (p + q) in
        let x : p + q < end = omega arith in
        let y : i + q < length input = omega arith in
        let v : p + q < length old = omega arith in
        let w : q < length (drop i input) = simp length-drop (omega arith) in
        let e = next memory (p + q) x in
        let stored : at (set memory (p + q) b) (p + q + 1) ≡ at (paste old p (drop i input) (suc q)) (p + suc q) =
        rw (← paste-suc old p (drop i input) q 0 v w, get_or-drop, add-suc p q, ← add-one (p + q)) refl in
        let after : took_of (does s) s b ≡ at (paste old p (drop i input) (suc q)) (p + suc q) = ap (λ (d : Does ℕ S). took_of d s b) e ∙ stored in
        subst (λ (t : S). Takes m input i (at old p) (suc q) t) after (steps.more (take-run q (omega arith) (omega arith)) (ap need_of e) (one memory (p + q) b x) y)

    -- the copy of as many as are wanted and there
    pub all_taken : (q : ℕ) (new : List ℕ) → p < end → i < length input → Copied input i old p end new q → Taken m input i (at old p) q (at new (p + q))
    all_taken q new inside h c =
        let x : q ≡ min (end - p) (length input - i) = c.count_is in
        record { some = omega arith; takes = rw c.memory_is (take-run q (omega arith) (omega arith)) }

  -- at k: with k of a memory's first `end` bytes sent
  module _ (at : (k : ℕ) → S) (end : ℕ) (memory : List ℕ) (next : (k : ℕ) → k < end → does (at k) ≡ sends (get_or memory k 0) (at (k + 1)))
      (old : List ℕ) (j p : ℕ) (fits : end ≤ length memory) where
    send-run : (q : ℕ) → q ≤ end - p → j + q ≤ length old → Sends m (at p) j old q (at (p + q)) (paste old j (drop p (take end memory)) q)
    send-run zero h l = rw (← paste-zero old j (drop p (take end memory)), add-zero p) steps.none
    send-run (suc q) h l =
        let bytes = drop p (take end memory) in
        let x : p + q < end = omega arith in
        let v : j + q < length old = omega arith in
        let k : length (take end memory) ≡ end = length-take-le end memory fits in
        let w : q < length bytes = simp length-drop (omega arith) in
        let before = send-run q (omega arith) (omega arith) in
        let room : j + q < length (paste old j bytes q) = omega (arith, sends-length m before) in
        let e = next (p + q) x in
        let all : Sends m (at p) j old (suc q) (sent_of (does (at (p + q))) (at (p + q))) (set (paste old j bytes q) (j + q) (byte_of (does (at (p + q))))) =
        steps.more before (ap need_of e) refl room in
        rw (← paste-suc old j bytes q 0 v w, get_or-drop, get_or-take end memory (p + q) 0 x, add-suc p q, ← add-one (p + q)) (rw e at all)

    -- the copy of as many as are left and have room
    pub all-sent : (q : ℕ) (reply : List ℕ) → p < end → j < length old → Copied (take end memory) p old j (length old) reply q → Sent m (at p) j old q (at (p + q)) reply
    all-sent q reply inside h c =
        let k : length (take end memory) ≡ end = length-take-le end memory fits in
        let x : q ≡ min (length old - j) (length (take end memory) - p) = c.count_is in
        record { some = omega arith; sends = rw c.memory_is (send-run q (omega arith) (omega arith)) }

-- the same where every symbol in view is taken
module _ {S : Type 0} (does : S → Does ℕ S) (due : S → ℕ) where
  abbrev line : Machine ℕ S
  line = line_of does due

  abbrev whole : S → List ℕ → ℕ
  whole s view = length view

  pub take-one : (input : List ℕ) (i : ℕ) (s t : S) → need_of (does s) ≡ machine.take_one → i < length input → t ≡ took_of (does s) s (get_or input i 0) →
      Taken line input i s 1 t
  take-one input i s t e h f = one-taken does due whole input i s t e refl h f

  pub send-one : (old : List ℕ) (j : ℕ) (s t : S) (b : ℕ) → does s ≡ sends b t → j < length old → Sent line s j old 1 t (set old j b)
  send-one old j s t b e h = one-sent does due whole old j s t b e h

  pub bulk-taken : (at : (memory : List ℕ) (k : ℕ) → S) (end : ℕ) →
      ((memory : List ℕ) (k : ℕ) → k < end → does (at memory k) ≡ takes (λ b. at (set memory k b) (k + 1))) →
      (input : List ℕ) (i : ℕ) (old : List ℕ) (p : ℕ) → end ≤ length old → (q : ℕ) (new : List ℕ) → p < end → i < length input →
      Copied input i old p end new q → Taken line input i (at old p) q (at new (p + q))
  bulk-taken at end next input i old p fits q new inside h c = all_taken does due whole at end next (λ memory k b l. refl) input i old p fits q new inside h c

  pub bulk-sent : (at : (k : ℕ) → S) (end : ℕ) (memory : List ℕ) → ((k : ℕ) → k < end → does (at k) ≡ sends (get_or memory k 0) (at (k + 1))) →
      (old : List ℕ) (j p : ℕ) → end ≤ length memory → (q : ℕ) (reply : List ℕ) → p < end → j < length old →
      Copied (take end memory) p old j (length old) reply q → Sent line (at p) j old q (at (p + q)) reply
  bulk-sent at end memory next old j p fits q reply inside h c = all-sent does due whole at end memory next old j p fits q reply inside h c
