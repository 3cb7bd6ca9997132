-- Every schedule of two joined machines keeps to what closes, and can end only there if nothing else closes.
-- Assumes nothing.
use Prim.Native.Nat.{ℕ}
use mathlib.Core.Path.{refl, sym, ap, ◌∙◌}
use mathlib.Core.List.{List, [], ◌∷◌}
use lib.ListN.{take}
use Rattle.machine.specs.Machine.{Machine}
use Rattle.machine.specs.Outcome.{Outcome}
use Rattle.machine.specs.Call.{call}
use Rattle.machine.specs.Uncut.{uncut}
use Rattle.machine.specs.History.{Came}
use Rattle.machine.specs.Lawful.{Any, Lawful}
use Rattle.machine.specs.Cuts.{Begins}
use Rattle.machine.proofs.Paths.{call-came, at-start}
use Rattle.joining.specs.Joint.{Both, begun, queue, called, Turn, on_left, on_right, turn, turns}
use Rattle.joining.specs.Closing.{Closes, ClosesAlone}
use Rattle.joining.specs.Schedules.{Still, Ends, EverySchedule}
use Rattle.joining.proofs.Beginnings.{came-longer, came-whole, came-begins, came-stops, came-over}

module _ {S K : Type 0} (m : Machine ℕ S) (k : Machine ℕ K) {SoundS : S → Type 0} {SoundK : K → Type 0}
    (lawS : Lawful m Any SoundS) (lawK : Lawful k Any SoundK) (s : S) (gs : SoundS s) (t : K) (gt : SoundK t) (h r : List ℕ) where
  -- each has come where it stands over what the other has sent
  pub record Going (b : Both S K) : Type 0 where
    pub left_came : Came m s b.right.replies b.left
    pub right_came : Came k t b.left.replies b.right
    pub left_begins : Begins b.left.replies h
    pub right_begins : Begins b.right.replies r

  pub first_goes : Going (begun s t)
  first_goes =
      record {
        left_came = at-start m lawS s [];
        right_came = at-start k lawK t [];
        left_begins = record { back = h; is = refl };
        right_begins = record { back = r; is = refl };
      }

  module _ (c : Closes m k s t h r) where
    pub turn-goes : (b : Both S K) (x : Turn) → Going b → Going (turn m k b x)
    turn-goes b (on_left shown room) g =
        let p = call m b.left.final (take shown (queue b.left b.right)) room in
        let came = call-came m lawS s b.right.replies b.left g.left_came shown room in
        record {
          left_came = came;
          right_came = came-longer k t b.left.replies p.replies b.right g.right_came;
          left_begins = came-begins m s lawS gs b.right.replies r h (called m b.left b.right shown room) g.right_begins c.left_sends came;
          right_begins = g.right_begins;
        }
    turn-goes b (on_right shown room) g =
        let p = call k b.right.final (take shown (queue b.right b.left)) room in
        let came = call-came k lawK t b.left.replies b.right g.right_came shown room in
        record {
          left_came = came-longer m s b.right.replies p.replies b.left g.left_came;
          right_came = came;
          left_begins = g.left_begins;
          right_begins = came-begins k t lawK gt b.left.replies h r (called k b.right b.left shown room) g.left_begins c.right_sends came;
        }

    pub turns_go : (b : Both S K) (xs : List Turn) → Going b → Going (turns m k b xs)
    turns_go b [] g = g
    turns_go b (x ∷ xs) g = turns_go (turn m k b x) xs (turn-goes b x g)

  -- where neither can act, what they have said closes
  pub still-ends : ClosesAlone m k s t h r → (b : Both S K) → Going b → Still m k b → Ends m k s t h r b
  still-ends c b g still =
      let one = came-stops m s lawS gs b.right.replies b.left g.left_came still.left_stops in
      let two = came-stops k t lawK gt b.left.replies b.right g.right_came still.right_stops in
      let both = c.alone b.left.replies b.right.replies
      (record { left_sends = sym (ap (λ (o : Outcome S). o.replies) one); right_sends = sym (ap (λ (o : Outcome K). o.replies) two) }) in
      record { left_is = one ∙ ap (uncut m s) both.1; right_is = two ∙ ap (uncut k t) both.0 }

  pub every-schedule : ClosesAlone m k s t h r → EverySchedule m k s t h r
  every-schedule c xs =
      let b = turns m k (begun s t) xs in
      let g = turns_go c.closes (begun s t) xs first_goes in
      record {
        left_came = came-whole m s b.right.replies r b.left g.right_begins g.left_came;
        right_came = came-whole k t b.left.replies h b.right g.left_begins g.right_came;
        left_begins = g.left_begins;
        right_begins = g.right_begins;
        left_over = came-over m s lawS gs b.right.replies r b.left g.right_begins g.left_came;
        right_over = came-over k t lawK gt b.left.replies h b.right g.left_begins g.right_came;
        at_end = still-ends c b g;
      }
