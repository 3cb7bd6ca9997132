-- Every schedule of calls on two joined machines keeps to the bytes h and r, and can end only where both definitions end; a side that is
-- over is where its definition ends (rules, 15.9).
-- Assumes nothing.
use Rattle.std.specs.Prelude.{ℕ, ◌≡◌, List}
use Rattle.machine.specs.Machine.{runs, Machine}
use Rattle.machine.specs.Uncut.{uncut}
use Rattle.machine.specs.History.{Came}
use Rattle.machine.specs.Cuts.{Begins, Stopped}
use Rattle.joining.specs.Joint.{Both, begun, queue, Turn, turns}

module _ {S K : Type 0} (m : Machine ℕ S) (k : Machine ℕ K) where
  -- neither side can act, with all that waits for it in view
  pub record Still (b : Both S K) : Type 0 where
    pub left_stops : Stopped m b.left.final (queue b.left b.right)
    pub right_stops : Stopped k b.right.final (queue b.right b.left)

  module _ (s : S) (t : K) (h r : List ℕ) where
    -- both are what their uncut definitions give
    pub record Ends (b : Both S K) : Type 0 where
      pub left_is : b.left ≡ uncut m s r
      pub right_is : b.right ≡ uncut k t h

    pub record Joined (b : Both S K) : Type 0 where
      -- actions on the other's bytes lead where each stands
      pub left_came : Came m s r b.left
      pub right_came : Came k t h b.right
      pub left_begins : Begins b.left.replies h
      pub right_begins : Begins b.right.replies r
      -- a side that is over is what its uncut definition gives, whatever the other has still to say
      pub left_over : m.need b.left.final ≡ runs → b.left ≡ uncut m s r
      pub right_over : k.need b.right.final ≡ runs → b.right ≡ uncut k t h
      pub at_end : Still b → Ends b

    abbrev pub EverySchedule : Type 0
    EverySchedule = (ts : List Turn) → Joined (turns m k (begun s t) ts)
