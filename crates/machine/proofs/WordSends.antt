-- A word that goes into a reply is one send, or two.
-- Assumes nothing.
use Prim.Native.Nat.{ℕ, ◌+◌, ◌<◌}
use native.Mathlib.Omega.{arith}
use mathlib.Core.Path.{◌≡◌, refl, ap, subst, sym}
use mathlib.Core.Bool.{Bool, true, false, cond}
use mathlib.Core.List.{List}
use lib.Dec.{eqb}
use lib.ListN.{length, set}
use borrow.Author.Tests.{eqb-false}
use borrow.Table.Steps.{cases}
use Rattle.numbers.specs.Number.{low_byte, high_byte}
use Rattle.machine.specs.Machine.{Machine}
use Rattle.machine.specs.Does.{Does, sends, need_of, sent_of, byte_of}
use Rattle.machine.specs.Steps.{Sends, Sent}
use Rattle.machine.specs.Steps as steps
use Rattle.machine.specs.Word.{word_sent}
use Rattle.machine.specs.declared.step.Moved.{Moved}
use Rattle.machine.proofs.Bulks.{tabled, one-sent}
use Rattle.machine.proofs.Repeats.{sends-length}

module _ {X S : Type 0} (does : S → Does ℕ S) (due : S → ℕ) (count : S → List ℕ → ℕ) (at : X → (reason : ℕ) → S) (old : List ℕ) (j : ℕ)
    (s : S) (half whole : X) (word reason : ℕ) (low : does s ≡ sends (low_byte word) (at half reason))
    (high : does (at half reason) ≡ sends (high_byte word) (at whole reason)) (room : j < length old) where
  abbrev m : Machine ℕ S
  m = tabled does due count

  abbrev So : Moved X × List ℕ → Type 0
  So r = Sent m s j old r.0.count (at r.0.step r.0.reason) r.1

  one : So (record { step = half; reason = reason; count = 1 }, set old j (low_byte word))
  one = one-sent does due count old j s (at half reason) (low_byte word) low room

  both : j + 1 < length old → So (record { step = whole; reason = reason; count = 2 }, set (set old j (low_byte word)) (j + 1) (high_byte word))
  both h =
      let t = at half reason in
      let reply = set old j (low_byte word) in
      let first = one.sends in
      let fits : j + 1 < length reply = omega (arith, sends-length m first) in
      let all : Sends m s j old 2 (sent_of (does t) t) (set reply (j + 1) (byte_of (does t))) = steps.more first (ap need_of high) refl fits in
      record { some = omega arith; sends = rw high at all }

  pub word-sends : (r : Moved X) (reply : List ℕ) → (r, reply) ≡ word_sent word half whole reason j old →
      Sent (tabled does due count) s j old r.count (at r.step r.reason) reply
  word-sends r reply e =
      subst So (sym e) (cases (eqb (j + 1) (length old))
      (λ t. rw t one)
      (λ f. rw f (both (omega (arith, eqb-false _ _ f, room)))))
