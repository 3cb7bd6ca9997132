-- A line's machine is lawful if its states stay sound and its count of due sends falls by one with each; the rest follows from its needs.
-- Assumes nothing.
use Prim.Native.Nat.{ℕ, suc, ◌≤◌, ◌<◌}
use native.Mathlib.Omega.{arith}
use mathlib.Core.Path.{◌≡◌, refl, sym, ap, ◌∙◌}
use mathlib.Core.List.{List, [], ◌∷◌}
use lib.ListN.{length}
use Rattle.machine.specs.Machine.{Need, acts, runs, Machine, line}
use Rattle.machine.specs.Machine as machine
use Rattle.machine.specs.History.{Event}
use Rattle.machine.specs.Lawful.{Every, Moves, takes_some, sends_some, Kept, Lawful}
use Rattle.machine.proofs.Stops.{views_of, not-both}

-- a need of a line
pub data Line (n : Need) : Type 0 where
  takes : n ≡ machine.take_one → Line n
  sends : n ≡ machine.send_one → Line n
  ends : n ≡ runs → Line n

module _ {A S : Type 0} (need : S → Need) (took : S → A → S) (byte : S → ℕ) (sent : S → S) (due : S → ℕ) (is-line : (s : S) → Line (need s)) where
  abbrev m : Machine A S
  m = line need took byte sent due

  pub line-one : (s : S) (views : ℕ) → need s ≡ acts views → views ≤ 1
  line-one s views e = go (is-line s)
    where
      go : Line (need s) → views ≤ 1
      go (takes f) = let v : views ≡ 1 = ap views_of (sym e ∙ f) in omega arith
      go (sends f) = let v : views ≡ 0 = ap views_of (sym e ∙ f) in omega arith
      go (ends f) = absurd (not-both views (sym f ∙ e))

  pub line-speaks : (s : S) → need s ≡ acts 0 → 0 < length (m.says s [])
  line-speaks s e = omega arith

  line-moves : (s : S) (view : List A) (views : ℕ) → need s ≡ acts views → length view ≡ views → Moves m s view
  line-moves s view views e l = go (is-line s) view l
    where
      go : Line (need s) → (view : List A) → length view ≡ views → Moves m s view
      go (takes f) view l = let v : views ≡ 1 = ap views_of (sym e ∙ f) in takes_some (omega arith)
      go (sends f) [] l = sends_some refl (omega arith)
      go (sends f) (a ∷ view) l = let v : views ≡ 0 = ap views_of (sym e ∙ f) in absurd (let z : ⊥ = omega arith in z)
      go (ends f) view l = absurd (not-both views (sym f ∙ e))

  -- what takes and sends keep, every action keeps
  pub line_kept : (Good : A → Type 0) (P : List (Event A S) → S → Type 0) →
      ((events : List (Event A S)) (s : S) (a : A) → need s ≡ machine.take_one → Good a → P events s → P (record { state = s; view = a ∷ [] } ∷ events) (took s a)) →
      ((events : List (Event A S)) (s : S) → need s ≡ machine.send_one → P events s → P (record { state = s; view = [] } ∷ events) (sent s)) →
      Kept m Good P
  line_kept Good P by-take by-send events s view views e l w h = go (is-line s) view l w
    where
      go : Line (need s) → (view : List A) → length view ≡ views → Every Good view → P (record { state = s; view = view } ∷ events) (m.after s view)
      go (takes f) [] l w = let v : views ≡ 1 = ap views_of (sym e ∙ f) in absurd (let z : ⊥ = omega arith in z)
      go (takes f) (a ∷ []) l w = by-take events s a f w.0 h
      go (takes f) (a ∷ b ∷ view) l w = let v : views ≡ 1 = ap views_of (sym e ∙ f) in absurd (let z : ⊥ = omega arith in z)
      go (sends f) [] l w = by-send events s f h
      go (sends f) (a ∷ view) l w = let v : views ≡ 0 = ap views_of (sym e ∙ f) in absurd (let z : ⊥ = omega arith in z)
      go (ends f) view l w = absurd (not-both views (sym f ∙ e))

  pub line-lawful : (Good : A → Type 0) (Sound : S → Type 0) → ((s : S) (a : A) → need s ≡ machine.take_one → Good a → Sound s → Sound (took s a)) →
      ((s : S) → need s ≡ machine.send_one → Sound s → Sound (sent s)) → ((s : S) → Sound s → need s ≡ machine.send_one → due s ≡ suc (due (sent s))) →
      Lawful m Good Sound
  line-lawful Good Sound by-take by-send exact =
      record {
        stays_sound = line_kept Good (λ _ s. Sound s) (λ events s a e g h. by-take s a e g h) (λ events s e h. by-send s e h);
        takes_in_view = λ s view. omega arith;
        moves = line-moves;
        due_falls = exact;
      }
