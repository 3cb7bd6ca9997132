-- Two machines that talk in turn close on each other, alone.
-- Assumes nothing.
use Prim.Native.Nat.{ℕ}
use mathlib.Core.Path.{◌≡◌, refl, sym, ap, ◌∙◌}
use mathlib.Core.List.{List, [], ◌++◌, append_assoc, append-nil}
use Rattle.machine.specs.Machine.{Machine}
use Rattle.machine.specs.Outcome.{Outcome, halt, join}
use Rattle.machine.specs.Uncut.{uncut}
use Rattle.machine.specs.Lawful.{Any, Lawful}
use Rattle.machine.proofs.Outcomes.{join-halt}
use Rattle.joining.specs.Goes.{Goes, rests}
use Rattle.joining.specs.Talk.{Talk, over, round, hears}
use Rattle.joining.specs.Closing.{ClosesAlone}
use Rattle.joining.proofs.Goings.{went, goes_on, goes-sound, goes-uncut}

module _ {S K : Type 0} (m : Machine ℕ S) (k : Machine ℕ K) where
  -- the left machine's run, and the right one's
  pub talk-left : {s s' : S} {t t' : K} {waiting used h r left : List ℕ} → Talk m k s t waiting used h r s' t' left → Goes m s used h s'
  talk-left over = rests
  talk-left (round g h later) = goes_on m g (talk-left later)
  talk-left (hears g later) = goes_on m g (talk-left later)

  pub talk-right : {s s' : S} {t t' : K} {waiting used h r left : List ℕ} → Talk m k s t waiting used h r s' t' left → Goes k t h r t'
  talk-right over = rests
  talk-right (round g h later) = goes_on k h (talk-right later)
  talk-right (hears g later) = talk-right later

  -- what the right one sent is used, but for what is left
  pub talk-used : {s s' : S} {t t' : K} {waiting used h r left : List ℕ} → Talk m k s t waiting used h r s' t' left → waiting ++ r ≡ used ++ left
  talk-used {waiting} over = append-nil waiting
  talk-used {waiting} {left} (round {used = used} g h later) = ap (λ (l : List ℕ). waiting ++ l) (talk-used later) ∙ sym (append_assoc waiting used left)
  talk-used {r} {left} (hears {front = front} {waiting = waiting} {used = used} g later) =
      append_assoc front waiting r ∙ ap (λ (l : List ℕ). front ++ l) (talk-used later) ∙ sym (append_assoc front used left)

  module _ {SoundS : S → Type 0} {SoundK : K → Type 0} (lawS : Lawful m Any SoundS) (lawK : Lawful k Any SoundK) where
    -- whatever closes is what was said, where at its end neither says more
    talk-alone : {s s' : S} {t t' : K} {waiting used h r left : List ℕ} → Talk m k s t waiting used h r s' t' left → SoundS s → SoundK t →
        ((x : List ℕ) → (uncut m s' (left ++ x)).replies ≡ []) → (uncut k t' []).replies ≡ [] →
        (h' r' : List ℕ) → (uncut m s (waiting ++ r')).replies ≡ h' → (uncut k t h').replies ≡ r' → (h' ≡ h) × (r' ≡ r)
    talk-alone {t} over gs gt quiet silent h' r' a b =
        let none : h' ≡ [] = sym a ∙ quiet r' in
        (none, sym b ∙ ap (λ (l : List ℕ). (uncut k t l).replies) none ∙ silent)
    talk-alone {s} {t} {waiting} (round {s₁ = s₁} {t₁ = t₁} {bs = bs} {cs = cs} {h = h} {r = r} x y later) gs gt quiet silent h' r' a b =
        let h₁ = (uncut m s₁ r').replies in
        let at-h : h' ≡ bs ++ h₁ = sym a ∙ ap (λ (o : Outcome S). o.replies) (goes-uncut m lawS x gs r') in
        let r₁ = (uncut k t₁ h₁).replies in
        let at-r : r' ≡ cs ++ r₁ = sym b ∙ ap (λ (l : List ℕ). (uncut k t l).replies) at-h ∙ ap (λ (o : Outcome K). o.replies) (goes-uncut k lawK y gt h₁) in
        let again : (uncut m s₁ (cs ++ r₁)).replies ≡ h₁ = ap (λ (l : List ℕ). (uncut m s₁ l).replies) (sym at-r) in
        let ih = talk-alone later (goes-sound m lawS x gs) (goes-sound k lawK y gt) quiet silent h₁ r₁ again refl in
        (at-h ∙ ap (λ (l : List ℕ). bs ++ l) ih.0, at-r ∙ ap (λ (l : List ℕ). cs ++ l) ih.1)
    talk-alone {s} (hears {s₁ = s₁} {front = front} {waiting = waiting} x later) gs gt quiet silent h' r' a b =
        let on : (uncut m s ((front ++ waiting) ++ r')).replies ≡ (uncut m s₁ (waiting ++ r')).replies =
        ap (λ (l : List ℕ). (uncut m s l).replies) (append_assoc front waiting r') ∙ ap (λ (o : Outcome S). o.replies) (goes-uncut m lawS x gs (waiting ++ r')) in
        talk-alone later (goes-sound m lawS x gs) gt quiet silent h' r' (sym on ∙ a) b

    -- the right one speaks first, and then they talk: what they say closes, alone
    module _ {s s' : S} {t t₁ t' : K} {waiting used h r left : List ℕ} (first : Goes k t [] waiting t₁) (talk : Talk m k s t₁ waiting used h r s' t' left)
        (gs : SoundS s) (gt : SoundK t) (quiet : (x : List ℕ) → (uncut m s' (left ++ x)).replies ≡ []) (silent : uncut k t' [] ≡ halt t') where
      pub talk-left-is : uncut m s (waiting ++ r) ≡ join (went used h s') (uncut m s' left)
      talk-left-is = ap (uncut m s) (talk-used talk) ∙ goes-uncut m lawS (talk-left talk) gs left

      pub talk-right-is : uncut k t h ≡ went h (waiting ++ r) t'
      talk-right-is =
          let whole = goes-uncut k lawK (goes_on k first (talk-right talk)) gt [] in
          ap (uncut k t) (sym (append-nil h)) ∙ whole ∙ ap (join (went h (waiting ++ r) t')) silent ∙ join-halt (went h (waiting ++ r) t')

      pub talk-closes : ClosesAlone m k s t h (waiting ++ r)
      talk-closes =
          record {
            closes = record {
              left_sends = ap (λ (o : Outcome S). o.replies) talk-left-is ∙ ap (λ (l : List ℕ). h ++ l) (ap (λ (l : List ℕ). (uncut m s' l).replies) (sym (append-nil left)) ∙ quiet []) ∙ append-nil h;
              right_sends = ap (λ (o : Outcome K). o.replies) talk-right-is;
            };
            alone = λ h' r' c.
                let begins : r' ≡ waiting ++ (uncut k t₁ h').replies = sym c.right_sends ∙ ap (λ (o : Outcome K). o.replies) (goes-uncut k lawK first gt h') in
                let both = talk-alone talk gs (goes-sound k lawK first gt) quiet (ap (λ (o : Outcome K). o.replies) silent) h' (uncut k t₁ h').replies
                (ap (λ (l : List ℕ). (uncut m s l).replies) (sym begins) ∙ c.left_sends) refl in
                (both.0, begins ∙ ap (λ (l : List ℕ). waiting ++ l) both.1);
          }
