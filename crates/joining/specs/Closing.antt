-- Two definitions that close on each other: fed the other's bytes, each sends its own (rules, 15.9).
-- Assumes nothing.
use Rattle.std.specs.Prelude.{ℕ, ◌≡◌, List}
use Rattle.machine.specs.Machine.{Machine}
use Rattle.machine.specs.Uncut.{uncut}

module _ {S K : Type 0} (m : Machine ℕ S) (k : Machine ℕ K) (s : S) (t : K) where
  pub record Closes (h r : List ℕ) : Type 0 where
    pub left_sends : (uncut m s r).replies ≡ h
    pub right_sends : (uncut k t h).replies ≡ r

  -- and no others do. This must be said: two machines that echo close on nothing, and on every byte too
  pub record ClosesAlone (h r : List ℕ) : Type 0 where
    pub closes : Closes h r
    pub alone : (h' r' : List ℕ) → Closes h' r' → (h' ≡ h) × (r' ≡ r)
