-- One byte taken, one sent.
-- Assumes nothing.
use Prim.Native.Nat.{ℕ, ◌<◌}
use mathlib.Core.Path.{◌≡◌, refl, sym, ap, ◌∙◌}
use mathlib.Core.Bool.{false}
use mathlib.Core.List.{List}
use lib.ListN.{length, get_or, set}
use Rattle.machine.specs.Machine as machine
use Rattle.machine.specs.Does.{Does, takes, sends, took_of, need_of, line_of}
use Rattle.machine.specs.Leaving.{leaving_takes}
use Rattle.machine.specs.Steps.{Taken, Sent}
use Rattle.machine.proofs.Bulks.{one-taken, one-sent}
use Rattle.host_command.specs.Exchange.{Lent}
use Rattle.host_flow.specs.declared.step.Step.{Step}
use Rattle.machine.specs.declared.step.Progress.{Progress}
use Rattle.machine.specs.declared.step.Moved.{Moved}
use Rattle.host_flow.specs.State.{State, state}
use Rattle.host_flow.specs.Flow.{goes, does_at, does}
use Rattle.host_flow.specs.Due.{due}
use Rattle.host_flow.specs.Host.{is_look, leaves, host}

-- how many bytes in view the host takes
abbrev pub taken : State → List ℕ → ℕ
taken = leaving_takes leaves (line_of does due)

module _ (reason : ℕ) (c : Lent) (s : Step) where
  pub takes_one : (next : ℕ → State) → does_at reason c s ≡ takes next → is_look s ≡ false → (input : List ℕ) (i : ℕ) → i < length input → (p : Progress Step) →
      state p.step p.reason c ≡ next (get_or input i 0) → (r : Moved Step) → r ≡ record { step = p.step; reason = p.reason; count = 1 } →
      Taken host input i (state s reason c) r.count (state r.step r.reason c)
  takes_one next e stays input i h p f r g =
      let came = get_or input i 0 in
      let after : state p.step p.reason c ≡ took_of (does_at reason c s) (state s reason c) came =
      f ∙ sym (ap (λ (d : Does ℕ State). took_of d (state s reason c) came) e) in
      rw g (one-taken does due taken input i (state s reason c) (state p.step p.reason c) (ap (λ (d : Does ℕ State). need_of d) e) (rw stays refl) h after)

  -- of a step that is known
  pub takes_at : (y : Step) → s ≡ y → is_look y ≡ false → need_of (does_at reason c y) ≡ machine.take_one → (input : List ℕ) (i : ℕ) → i < length input → (p : Progress Step) →
      state p.step p.reason c ≡ took_of (does_at reason c y) (state y reason c) (get_or input i 0) → (r : Moved Step) →
      r ≡ record { step = p.step; reason = p.reason; count = 1 } → Taken host input i (state s reason c) r.count (state r.step r.reason c)
  takes_at y e stays need input i h p f r g =
      rw (g, e) (one-taken does due taken input i (state y reason c) (state p.step p.reason c) need (rw stays refl) h f)

  pub sends-one : (b : ℕ) (next : Step) → does_at reason c s ≡ sends b (goes reason c next) → (old : List ℕ) (j : ℕ) → j < length old →
      (p : Progress Step) → p ≡ record { step = next; reason = reason } → (r : Moved Step) → r ≡ record { step = p.step; reason = p.reason; count = 1 } →
      Sent host (state s reason c) j old r.count (state r.step r.reason c) (set old j b)
  sends-one b next e old j h p f r g = rw (g, f) (one-sent does due taken old j (state s reason c) (state next reason c) b e h)
