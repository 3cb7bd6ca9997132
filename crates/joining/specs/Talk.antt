-- Two machines that talk to each other in turn.
-- Assumes nothing.
use Rattle.std.specs.Prelude.{ℕ, List, [], ◌++◌}
use Rattle.machine.specs.Machine.{Machine}
use Rattle.joining.specs.Goes.{Goes}

-- in turn m takes what waits for it and answers, and k takes that and answers; or m only takes some of what waits. In all m takes
-- `used` and sends h, k sends r, and `left` waits for m at the end
pub data Talk {S K : Type 0} (m : Machine ℕ S) (k : Machine ℕ K) : S → K → (waiting used h r : List ℕ) → S → K → (left : List ℕ) → Type 0 where
  over : {s : S} {t : K} {waiting : List ℕ} → Talk m k s t waiting [] [] [] s t waiting
  round : {s s₁ s₂ : S} {t t₁ t₂ : K} {waiting bs cs used h r left : List ℕ} → Goes m s waiting bs s₁ → Goes k t bs cs t₁ →
      Talk m k s₁ t₁ cs used h r s₂ t₂ left → Talk m k s t waiting (waiting ++ used) (bs ++ h) (cs ++ r) s₂ t₂ left
  hears : {s s₁ s₂ : S} {t t₂ : K} {front waiting used h r left : List ℕ} → Goes m s front [] s₁ →
      Talk m k s₁ t waiting used h r s₂ t₂ left → Talk m k s t (front ++ waiting) (front ++ used) h r s₂ t₂ left
