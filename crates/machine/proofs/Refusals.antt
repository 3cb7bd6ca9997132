-- What a refused call hands back, and what an accepted one went by.
-- Assumes nothing.
use Prim.Native.Nat.{ℕ, ◌<◌}
use native.Mathlib.Omega.{arith}
use mathlib.Core.Path.{◌≡◌, refl}
use mathlib.Core.Bool.{Bool, true, false, cond}
use mathlib.Core.List.{List}
use lib.Dec.{eqb}
use borrow.Author.Tests.{eqb-true, eqb-false}
use borrow.Table.Steps.{cases}
use Rattle.machine.specs.Session.{Session, Read, sound, unsound, refused, accepted, read_result, result_of}
use Rattle.machine.specs.Told.{refusal_number}
use Rattle.machine.specs.declared.Record.{Record}
use Rattle.machine.specs.declared.refusal.Refusal.{Refusal}
use Rattle.machine.specs.declared.refusal.Refusal.TheVariants.{WorkLength, RamLength, FlashLength}
use Rattle.machine.specs.declared.refusal.Refusal.TheVariants as refusal

pub refused-keeps : {A M S : Type 0} (σ : Session A M S) (r : Record) (mem : M) (input : List A) (reply : List ℕ) →
    ((result_of σ r mem input reply).report.number ≡ 0 → ⊥) → (result_of σ r mem input reply).report.session ≡ r
unfolding result_of accepted
refused-keeps σ r mem input reply h = go (eqb (σ.refusal mem) 0) (σ.read r mem) h
  where
    go : (t : Bool) (s : Read _) →
        ((cond t (read_result σ s r mem input reply) (refused (σ.refusal mem) r reply mem)).report.number ≡ 0 → ⊥) →
        (cond t (read_result σ s r mem input reply) (refused (σ.refusal mem) r reply mem)).report.session ≡ r
    go true (sound s) h = absurd (h refl)
    go true unsound h = refl
    go false s h = refl

-- what an accepted call went by
pub record Accepts {A M S : Type 0} (σ : Session A M S) (r : Record) (mem : M) (input : List A) (reply : List ℕ) : Type 0 where
  pub state : S
  pub fits : σ.refusal mem ≡ 0
  pub read_is : σ.read r mem ≡ sound state
  pub result-is : result_of σ r mem input reply ≡ accepted σ state input reply

-- a call is accepted, or refused with a number that isn't 0 and standing 0
data Judged {A M S : Type 0} (σ : Session A M S) (r : Record) (mem : M) (input : List A) (reply : List ℕ) : Type 0 where
  accepted-so : Accepts σ r mem input reply → Judged σ r mem input reply
  refused-so : ((result_of σ r mem input reply).report.number ≡ 0 → ⊥) → (result_of σ r mem input reply).report.standing ≡ 0 → Judged σ r mem input reply

judged : {A M S : Type 0} (σ : Session A M S) (r : Record) (mem : M) (input : List A) (reply : List ℕ) → Judged σ r mem input reply
unfolding result_of
judged {A} {M} {S} σ r mem input reply =
    cases (eqb (σ.refusal mem) 0) (λ t. reads t (σ.read r mem) refl) (λ f. refused-so (rw f (eqb-false _ _ f)) (rw f refl))
  where
    reads : eqb (σ.refusal mem) 0 ≡ true → (d : Read S) → σ.read r mem ≡ d → Judged σ r mem input reply
    reads t (sound s) q = accepted-so (record { state = s; fits = eqb-true _ _ t; read_is = q; result-is = rw (t, q) refl })
    reads t unsound q = refused-so (rw (t, q) (λ z. omega arith)) (rw (t, q) refl)

pub accepts : {A M S : Type 0} (σ : Session A M S) (r : Record) (mem : M) (input : List A) (reply : List ℕ) → (result_of σ r mem input reply).report.number ≡ 0 →
    Accepts σ r mem input reply
accepts σ r mem input reply e = go (judged σ r mem input reply)
  where
    go : Judged σ r mem input reply → Accepts σ r mem input reply
    go (accepted-so a) = a
    go (refused-so n s) = absurd (n e)

-- the same for a call with a standing other than 0
pub accepts-standing : {A M S : Type 0} (σ : Session A M S) (r : Record) (mem : M) (input : List A) (reply : List ℕ) {standing : ℕ} →
    (result_of σ r mem input reply).report.standing ≡ standing → 0 < standing → Accepts σ r mem input reply
accepts-standing σ r mem input reply e h = go (judged σ r mem input reply)
  where
    go : Judged σ r mem input reply → Accepts σ r mem input reply
    go (accepted-so a) = a
    go (refused-so n s) = absurd (let z : ⊥ = omega (arith, e, s) in z)

-- what is read is one state
pub sound-same : {S : Type 0} (a b : S) → sound a ≡ sound b → a ≡ b
sound-same a b e = cc

pub never-sound : {S : Type 0} (s : S) → unsound ≡ sound s → ⊥
never-sound s e = let z : ◌≡◌ {A = ℕ} 0 1 = cc in omega arith

-- every refusal has a number
pub some-number : (why : Refusal) → refusal_number why ≡ 0 → ⊥
some-number WorkLength e = omega arith
some-number RamLength e = omega arith
some-number FlashLength e = omega arith
some-number refusal.Record e = omega arith
