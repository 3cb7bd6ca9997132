-- The uncut definition follows a run along given bytes.
-- Assumes nothing.
use Prim.Native.Nat.{ℕ, zero, suc, ◌+◌, ◌≤◌, ◌<◌}
use native.Mathlib.Omega.{arith}
use native.Mathlib.Numerals.{add-one}
use mathlib.Core.Path.{◌≡◌, refl, sym, ap, ◌∙◌}
use mathlib.Core.List.{List, [], ◌∷◌, ◌++◌}
use lib.ListN.{length, take, drop, get_or, set}
use lib.Seq.{drop-cons, drop-length, take-length, length-take-le, take-suc}
use Rattle.memory.specs.Store.{laid}
use Rattle.memory.proofs.Stores.{laid_next}
use Rattle.machine.specs.Machine as machine
use Rattle.machine.specs.Machine.{Machine}
use Rattle.machine.specs.Outcome.{Outcome, acted, join}
use Rattle.machine.specs.Uncut.{uncut}
use Rattle.machine.specs.Lawful.{Any, Lawful}
use Rattle.machine.proofs.Outcomes.{join-assoc, halt-join}
use Rattle.machine.proofs.Actions.{uncut-act}
use Rattle.joining.specs.Goes.{Goes, rests, takes, sends}

-- what a run gives
abbrev pub went : {S : Type 0} → (taken sent : List ℕ) → S → Outcome S
went us bs t = record { replies = bs; taken = length us; final = t }

module _ {S : Type 0} (m : Machine ℕ S) where
  pub via : {s s' t : S} {us vs : List ℕ} → s ≡ s' → Goes m s' us vs t → Goes m s us vs t
  via e g = rw e g

  pub till : {s t t' : S} {us vs : List ℕ} → Goes m s us vs t → t ≡ t' → Goes m s us vs t'
  till g e = rw (← e) g

  pub goes_on : {s t u : S} {us bs cs ds : List ℕ} → Goes m s us bs t → Goes m t cs ds u → Goes m s (us ++ cs) (bs ++ ds) u
  goes_on rests r = r
  goes_on (takes e f g l) r = takes e f g (goes_on l r)
  goes_on (sends e f l) r = sends e f (goes_on l r)

  module _ {Sound : S → Type 0} (law : Lawful m Any Sound) where
    pub goes-sound : {s t : S} {us bs : List ℕ} → Goes m s us bs t → Sound s → Sound t
    goes-sound rests h = h
    goes-sound {s} (takes {a = a} e f g l) h = goes-sound l (law.stays_sound [] s (a ∷ []) 1 e refl (tt, tt) h)
    goes-sound {s} (sends e f l) h = goes-sound l (law.stays_sound [] s [] 0 e refl tt h)

    pub goes-uncut : {s t : S} {us bs : List ℕ} → Goes m s us bs t → Sound s → (rest : List ℕ) → uncut m s (us ++ rest) ≡ join (went us bs t) (uncut m t rest)
    goes-uncut {s} rests h rest = sym (halt-join s (uncut m s rest))
    goes-uncut {s} {t} (takes {a = a} {us = us} {bs = bs} e f g l) h rest =
        let act = uncut-act m law s h (a ∷ (us ++ rest)) 1 e (omega arith) in
        let later = goes-uncut l (law.stays_sound [] s (a ∷ []) 1 e refl (tt, tt) h) rest in
        let one : 1 + length us ≡ suc (length us) = omega arith in
        act ∙ rw (f, g, later) (sym (join-assoc (acted [] 1 (m.after s (a ∷ []))) (went us bs t) (uncut m t rest)) ∙ rw one)
    goes-uncut {s} {t} (sends {b = b} {us = us} {bs = bs} e g l) h rest =
        let act = uncut-act m law s h (us ++ rest) 0 e (omega arith) in
        let none : m.takes s [] ≡ 0 = omega (arith, law.takes_in_view s []) in
        let later = goes-uncut l (law.stays_sound [] s [] 0 e refl tt h) rest in
        let zero : 0 + length us ≡ length us = omega arith in
        act ∙ rw (none, g, later) (sym (join-assoc (acted (b ∷ []) 0 (m.after s [])) (went us bs t) (uncut m t rest)) ∙ rw zero)

  -- a list sent byte by byte: `at` is where the machine stands when so many are sent
  pub sends-list : (xs : List ℕ) (at : ℕ → S) →
      ((p : ℕ) → p < length xs → (m.need (at p) ≡ machine.send_one) × (m.says (at p) [] ≡ get_or xs p 0 ∷ []) × (m.after (at p) [] ≡ at (p + 1))) →
      Goes m (at 0) [] xs (at (length xs))
  sends-list xs at one = go (length xs) 0 (omega arith)
    where
      go : (n p : ℕ) → p + n ≡ length xs → Goes m (at p) [] (drop p xs) (at (length xs))
      go zero p e =
          let all : p ≡ length xs = omega arith in
          rw (all, drop-length xs) rests
      go (suc n) p e =
          let more : p < length xs = omega arith in
          let k = one p more in
          let later : Goes m (m.after (at p) []) [] (drop (suc p) xs) (at (length xs)) = rw (k.2, add-one p) (go n (suc p) (omega arith)) in
          rw (drop-cons xs p 0 more) (sends k.0 k.1 later)

  -- bytes taken one by one into a memory
  pub takes-list : (xs : List ℕ) (at : ℕ → List ℕ → S) →
      ((p : ℕ) (mem : List ℕ) (b : ℕ) → p < length xs → (m.need (at p mem) ≡ machine.take_one) × (m.takes (at p mem) (b ∷ []) ≡ 1) × (m.says (at p mem) (b ∷ []) ≡ []) × (m.after (at p mem) (b ∷ []) ≡ at (p + 1) (set mem p b))) →
      (mem : List ℕ) → length xs ≤ length mem → Goes m (at 0 mem) xs [] (at (length xs) (laid xs mem))
  takes-list xs at one mem fits = go (length xs) 0 (omega arith)
    where
      go : (n p : ℕ) → p + n ≡ length xs → Goes m (at p (laid (take p xs) mem)) (drop p xs) [] (at (length xs) (laid xs mem))
      go zero p e =
          let all : p ≡ length xs = omega arith in
          rw (all, drop-length xs, take-length xs) rests
      go (suc n) p e =
          let more : p < length xs = omega arith in
          let b = get_or xs p 0 in
          let k = one p (laid (take p xs) mem) b more in
          let at_p : length (take p xs) ≡ p = length-take-le p xs (omega arith) in
          let room : length (take p xs) < length mem = omega arith in
          let next : set (laid (take p xs) mem) p b ≡ laid (take (suc p) xs) mem =
          ap (λ (i : ℕ). set (laid (take p xs) mem) i b) (sym at_p) ∙ laid_next (take p xs) mem b room ∙ ap (λ (l : List ℕ). laid l mem) (sym (take-suc xs p 0 more)) in
          let later : Goes m (m.after (at p (laid (take p xs) mem)) (b ∷ [])) (drop (suc p) xs) [] (at (length xs) (laid xs mem)) =
          rw (k.3, next, add-one p) (go n (suc p) (omega arith)) in
          rw (drop-cons xs p 0 more) (takes k.0 k.1 k.2 later)
