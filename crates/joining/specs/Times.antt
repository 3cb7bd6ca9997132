-- How often an action of one kind is made on a stream (rules, 15.9).
-- Assumes nothing.
use Rattle.std.specs.Prelude.{ℕ, suc, ◌≤◌, ◌≡◌, Bool, cond, List, [], ◌∷◌}
use Rattle.machine.specs.Machine.{Machine}
use Rattle.machine.specs.Outcome.{Outcome}
use Rattle.machine.specs.Uncut.{uncut}
use Rattle.machine.specs.History.{Event, Way, Came}

module _ {S : Type 0} (is_one : Event ℕ S → Bool) where
  abbrev pub times : List (Event ℕ S) → ℕ
  times [] = 0
  times (e ∷ events) = cond (is_one e) (suc (times events)) (times events)

  -- from s on a stream, n times
  pub record Times (m : Machine ℕ S) (s : S) (stream : List ℕ) (n : ℕ) : Type 0 where
    -- there are actions that lead to the end of the uncut definition, and whichever do, n of them are of this kind
    pub came : Came m s stream (uncut m s stream)
    pub at_end : (events : List (Event ℕ S)) → Way m s stream events (uncut m s stream) → times events ≡ n
    -- never more, wherever actions lead
    pub never_more : (events : List (Event ℕ S)) (o : Outcome S) → Way m s stream events o → times events ≤ n
