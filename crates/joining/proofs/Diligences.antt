-- A schedule that keeps calling both sides with room and all that waits in view ends.
-- Assumes nothing.
use Prim.Native.Nat.{ℕ, zero, suc, ◌+◌, ◌≤◌}
use native.Mathlib.Omega.{arith}
use mathlib.Core.Path.{◌≡◌, refl, ap, ◌∙◌}
use mathlib.Core.Bool.{false≢true}
use mathlib.Core.List.{List}
use lib.ListN.{length, take, length-append, length-drop}
use borrow.Author.Tests.{le-leb}
use Rattle.machine.specs.Machine.{Machine}
use Rattle.machine.specs.Outcome.{Outcome, halt, join}
use Rattle.machine.specs.Call.{call}
use Rattle.machine.specs.Lawful.{Any, Lawful}
use Rattle.machine.specs.Cuts.{Begins, Stopped}
use Rattle.machine.proofs.Outcomes.{join-halt}
use Rattle.joining.specs.Joint.{Both, begun, queue, Turn, on_left, on_right, turn, turns}
use Rattle.joining.specs.Closing.{Closes, ClosesAlone}
use Rattle.joining.specs.Schedules.{Still}
use Rattle.joining.specs.Rounds.{rounds_from, rounds, enough_rounds}
use Rattle.joining.specs.Diligence.{Brief, left_full, right_full, alternating, Diligent}
use Rattle.joining.proofs.Joints.{Going, first_goes, turn-goes, turns_go, still-ends}
use Rattle.joining.proofs.Work.{work, call-brings, full-stopped, work-within, work-whole, stopped-idle}
use Rattle.joining.proofs.Work as one
use Rattle.joining.proofs.Rounds.{Brings, further, nothing, Ending, stopped, going, rounds-bring}

-- all that waits is a part of what the other sends
queue-within : {S K : Type 0} (mine : Outcome S) (other : Outcome K) (r : List ℕ) → Begins other.replies r → length (queue mine other) ≤ length r
queue-within mine other r b = omega (arith, length-drop mine.taken other.replies, ap length b.is, length-append other.replies b.back)

module _ {S K : Type 0} (m : Machine ℕ S) (k : Machine ℕ K) where
  abbrev LeftStops : Both S K → Type 0
  LeftStops b = Stopped m b.left.final (queue b.left b.right)

  abbrev RightStops : Both S K → Type 0
  RightStops b = Stopped k b.right.final (queue b.right b.left)

  abbrev come : Both S K → ℕ
  come b = work m b.left + work k b.right

  -- a call that does nothing
  left-same : (b : Both S K) (p : Outcome S) → p ≡ halt b.left.final → ◌≡◌ {A = Both S K} (record { left = join b.left p; right = b.right }) b
  left-same b p e = ap (λ (o : Outcome S). record { left = o; right = b.right }) (ap (join b.left) e ∙ join-halt b.left)

  right-same : (b : Both S K) (p : Outcome K) → p ≡ halt b.right.final → ◌≡◌ {A = Both S K} (record { left = b.left; right = join b.right p }) b
  right-same b p e = ap (λ (o : Outcome K). record { left = b.left; right = o }) (ap (join b.right) e ∙ join-halt b.right)

  stays : (b : Both S K) (x : Turn) → LeftStops b → RightStops b → turn m k b x ≡ b
  stays b (on_left shown room) f g = left-same b _ (stopped-idle m b.left.final (queue b.left b.right) shown room f)
  stays b (on_right shown room) f g = right-same b _ (stopped-idle k b.right.final (queue b.right b.left) shown room g)

  module _ {SoundS : S → Type 0} {SoundK : K → Type 0} (lawS : Lawful m Any SoundS) (lawK : Lawful k Any SoundK) where
    module _ (briefS : Brief m) (briefK : Brief k) where
      turn-brings : (b : Both S K) (x : Turn) → Brings (turn m k) left_full right_full come LeftStops RightStops b x
      turn-brings b (on_left shown room) = go (call-brings m lawS b.left (take shown q) room)
        where
          q : List ℕ
          q = queue b.left b.right

          go : one.Brings m b.left (call m b.left.final (take shown q) room) → Brings (turn m k) left_full right_full come LeftStops RightStops b (on_left shown room)
          go (one.further w) = further (omega arith)
          go (one.nothing e) =
              nothing (left-same b _ e) (λ t. full-stopped m lawS briefS b.left.final q shown room t e) (λ t. absurd (false≢true t))
      turn-brings b (on_right shown room) = go (call-brings k lawK b.right (take shown q) room)
        where
          q : List ℕ
          q = queue b.right b.left

          go : one.Brings k b.right (call k b.right.final (take shown q) room) → Brings (turn m k) left_full right_full come LeftStops RightStops b (on_right shown room)
          go (one.further w) = further (omega arith)
          go (one.nothing e) =
              nothing (right-same b _ e) (λ t. absurd (false≢true t)) (λ t. full-stopped k lawK briefK b.right.final q shown room t e)

    module _ (s : S) (gs : SoundS s) (t : K) (gt : SoundK t) (h r : List ℕ) where
      abbrev Goings : Both S K → Type 0
      Goings b = Going m k lawS lawK s gs t gt h r b

      -- who has come as far as they can come has ended
      far-still : (b : Both S K) → Goings b → enough_rounds h r ≤ come b → Still m k b
      far-still b g w =
          let left = work-within m lawS s b.right.replies r h b.left g.left_came g.right_begins g.left_begins in
          let right = work-within k lawK t b.left.replies h r b.right g.right_came g.left_begins g.right_begins in
          record {
            left_stops = work-whole m lawS s b.right.replies r h b.left g.left_came g.right_begins g.left_begins (omega (arith, w, right));
            right_stops = work-whole k lawK t b.left.replies h r b.right g.right_came g.left_begins g.right_begins (omega (arith, w, left));
          }

      ended : (b : Both S K) (n : ℕ) → Goings b → enough_rounds h r ≤ n → Ending (turn m k) left_full right_full come LeftStops RightStops b n → Still m k b
      ended b n g w (stopped f e) = record { left_stops = f; right_stops = e }
      ended b n g w (going v) = far-still b g (omega arith)

      alternates : Closes m k s t h r → (n : ℕ) (b : Both S K) → Goings b → rounds (turn m k) left_full right_full b (alternating h r n) ≡ n
      unfolding rounds_from
      alternates c zero b g = refl
      alternates c (suc n) b g =
          let b₁ = turn m k b (on_left (length r) 1) in
          let g₁ = turn-goes m k lawS lawK s gs t gt h r c b (on_left (length r) 1) g in
          let g₂ = turn-goes m k lawS lawK s gs t gt h r c b₁ (on_right (length h) 1) g₁ in
          rw (le-leb _ _ (queue-within b.left b.right r g.right_begins), le-leb _ _ (queue-within b₁.right b₁.left h g₁.left_begins))
          (ap suc (alternates c n (turn m k b₁ (on_right (length h) 1)) g₂))

      pub diligent : Brief m → Brief k → ClosesAlone m k s t h r → Diligent m k s t h r
      diligent briefS briefK c =
          let first = first_goes m k lawS lawK s gs t gt h r in
          record {
            every_ends = λ ts w.
                let b = turns m k (begun s t) ts in
                let g = turns_go m k lawS lawK s gs t gt h r c.closes (begun s t) ts first in
                let still = ended b (rounds (turn m k) left_full right_full (begun s t) ts) g w
                (rounds-bring (turn m k) left_full right_full come LeftStops RightStops (turn-brings briefS briefK) stays (begun s t) ts) in
                record { still = still; ends = still-ends m k lawS lawK s gs t gt h r c b g still };
            some_are = λ n. alternates c.closes n (begun s t) first;
          }
