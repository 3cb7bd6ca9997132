-- Laws of a machine that is given by one table.
-- Assumes nothing.
use Prim.Native.Nat.{ℕ, suc, ◌<◌}
use mathlib.Core.Path.{◌≡◌, refl}
use mathlib.Core.List.{List, [], ◌∷◌}
use native.Mathlib.Omega.{arith}
use lib.ListN.{length}
use Rattle.machine.specs.Machine as machine
use Rattle.machine.specs.Machine.{Machine}
use Rattle.machine.specs.Does.{Does, takes, sends, runs, need_of, took_of, sent_of, byte_of, line_of}
use Rattle.machine.specs.History.{Event}
use Rattle.machine.specs.Lawful.{Any, Kept, Lawful}
use Rattle.machine.specs.SessionLaws.{OneByOne}
use Rattle.machine.proofs.Lines.{Line, line-one, line-speaks, line_kept, line-lawful}
use Rattle.machine.proofs.Lines as lines

module _ {A S : Type 0} where
  pub does-line : (d : Does A S) → Line (need_of d)
  does-line (takes next) = lines.takes refl
  does-line (sends byte next) = lines.sends refl
  does-line runs = lines.ends refl

  -- P, of the events and the state, holds after what is done
  abbrev pub Leaves : (Good : A → Type 0) (P : List (Event A S) → S → Type 0) → List (Event A S) → S → Does A S → Type 0
  Leaves Good P events s (takes next) = (a : A) → Good a → P (record { state = s; view = a ∷ [] } ∷ events) (next a)
  Leaves Good P events s (sends byte next) = P (record { state = s; view = [] } ∷ events) next
  Leaves Good P events s runs = Unit {0}

  -- where P says nothing of the events: what follows from P holds after it too, whatever the events
  pub leaves-weaken : (Good : A → Type 0) (P Q : S → Type 0) (events : List (Event A S)) (s : S) (d : Does A S) → ((t : S) → P t → Q t) →
      Leaves Good (λ _ t. P t) [] s d → Leaves Good (λ _ t. Q t) events s d
  leaves-weaken Good P Q events s (takes next) f l = λ a g. f (next a) (l a g)
  leaves-weaken Good P Q events s (sends byte next) f l = f next l
  leaves-weaken Good P Q events s runs f l = tt

  -- where nothing is asked of the state after it
  pub leaves-any : (Good : A → Type 0) (events : List (Event A S)) (s : S) (d : Does A S) → Leaves Good (λ _ t. Any t) events s d
  leaves-any Good events s (takes next) = λ a g. tt
  leaves-any Good events s (sends byte next) = tt
  leaves-any Good events s runs = tt

  -- a byte that is sent was counted
  abbrev pub Counted : (due : S → ℕ) → S → Does A S → Type 0
  Counted due s (takes next) = Unit {0}
  Counted due s (sends byte next) = due s ≡ suc (due next)
  Counted due s runs = Unit {0}

  module _ (does : S → Does A S) (due : S → ℕ) where
    abbrev m : Machine A S
    m = line_of does due

    is-line : (s : S) → Line (need_of (does s))
    is-line s = does-line (does s)

    pub does-one : OneByOne m
    does-one = line-one (λ s. need_of (does s)) (λ s a. took_of (does s) s a) (λ s. byte_of (does s)) (λ s. sent_of (does s) s) due is-line

    pub does-speaks : (s : S) → need_of (does s) ≡ machine.send_one → 0 < length (m.says s [])
    does-speaks = line-speaks (λ s. need_of (does s)) (λ s a. took_of (does s) s a) (λ s. byte_of (does s)) (λ s. sent_of (does s) s) due is-line

    pub does-kept : (Good : A → Type 0) (P : List (Event A S) → S → Type 0) →
        ((events : List (Event A S)) (s : S) → P events s → Leaves Good P events s (does s)) → Kept m Good P
    does-kept Good P all =
        line_kept (λ s. need_of (does s)) (λ s a. took_of (does s) s a) (λ s. byte_of (does s)) (λ s. sent_of (does s) s) due is-line Good P
        (λ events s a e g h. by-take events s a g (does s) (all events s h) e)
        (λ events s e h. by-send events s (does s) (all events s h) e)
      where
        by-take : (events : List (Event A S)) (s : S) (a : A) → Good a → (d : Does A S) → Leaves Good P events s d → need_of d ≡ machine.take_one →
            P (record { state = s; view = a ∷ [] } ∷ events) (took_of d s a)
        by-take events s a g (takes next) l e = l a g
        by-take events s a g (sends byte next) l e = absurd (let z : ◌≡◌ {A = ℕ} 0 1 = cc in omega arith)
        by-take events s a g runs l e = absurd (let z : ◌≡◌ {A = ℕ} 0 1 = cc in omega arith)

        by-send : (events : List (Event A S)) (s : S) (d : Does A S) → Leaves Good P events s d → need_of d ≡ machine.send_one →
            P (record { state = s; view = [] } ∷ events) (sent_of d s)
        by-send events s (takes next) l e = absurd (let z : ◌≡◌ {A = ℕ} 0 1 = cc in omega arith)
        by-send events s (sends byte next) l e = l
        by-send events s runs l e = absurd (let z : ◌≡◌ {A = ℕ} 0 1 = cc in omega arith)

    pub does-lawful : (Good : A → Type 0) (Sound : S → Type 0) →
        ((s : S) → Sound s → Leaves Good (λ _ t. Sound t) [] s (does s)) → ((s : S) → Sound s → Counted due s (does s)) → Lawful m Good Sound
    does-lawful Good Sound stays counts =
        line-lawful (λ s. need_of (does s)) (λ s a. took_of (does s) s a) (λ s. byte_of (does s)) (λ s. sent_of (does s) s) due is-line Good Sound
        (λ s a e g h. took_in s a g (does s) (stays s h) h)
        (λ s e h. sent-in s (does s) (stays s h) h)
        (λ s h e. counted s (does s) (counts s h) e)
      where
        took_in : (s : S) (a : A) → Good a → (d : Does A S) → Leaves Good (λ _ t. Sound t) [] s d → Sound s → Sound (took_of d s a)
        took_in s a g (takes next) l h = l a g
        took_in s a g (sends byte next) l h = h
        took_in s a g runs l h = h

        sent-in : (s : S) (d : Does A S) → Leaves Good (λ _ t. Sound t) [] s d → Sound s → Sound (sent_of d s)
        sent-in s (takes next) l h = h
        sent-in s (sends byte next) l h = l
        sent-in s runs l h = h

        counted : (s : S) (d : Does A S) → Counted due s d → need_of d ≡ machine.send_one → due s ≡ suc (due (sent_of d s))
        counted s (takes next) l e = absurd (let z : ◌≡◌ {A = ℕ} 0 1 = cc in omega arith)
        counted s (sends byte next) l e = l
        counted s runs l e = absurd (let z : ◌≡◌ {A = ℕ} 0 1 = cc in omega arith)
