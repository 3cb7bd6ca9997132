-- Runs of a machine along given bytes, each taken or sent by itself.
-- Assumes nothing.
use Rattle.std.specs.Prelude.{ℕ, ◌≡◌, List, [], ◌∷◌}
use Rattle.machine.specs.Machine as machine
use Rattle.machine.specs.Machine.{Machine}

-- from s, taking these bytes and sending those, the machine comes to t
pub data Goes {S : Type 0} (m : Machine ℕ S) : S → (taken sent : List ℕ) → S → Type 0 where
  rests : {s : S} → Goes m s [] [] s
  takes : {s t : S} {a : ℕ} {us bs : List ℕ} → m.need s ≡ machine.take_one → m.takes s (a ∷ []) ≡ 1 → m.says s (a ∷ []) ≡ [] →
      Goes m (m.after s (a ∷ [])) us bs t → Goes m s (a ∷ us) bs t
  sends : {s t : S} {b : ℕ} {us bs : List ℕ} → m.need s ≡ machine.send_one → m.says s [] ≡ b ∷ [] →
      Goes m (m.after s []) us bs t → Goes m s us (b ∷ bs) t
