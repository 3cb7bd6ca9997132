-- What a machine must keep to. It counts the actions that follow one another with nothing in view, and the count falls by one with each
-- of them. A count that is too small would drop replies of the uncut definition (rules, 3.4), and nothing would show it.
-- Assumes nothing.
use Rattle.std.specs.Prelude.{ℕ, suc, ◌≤◌, ◌<◌, ◌≡◌, List, [], ◌∷◌, length}
use Rattle.machine.specs.Machine.{acts, runs, Machine}
use Rattle.machine.specs.History.{Event}

abbrev pub Every : {A : Type 0} → (A → Type 0) → List A → Type 0
Every Good [] = Unit {0}
Every Good (a ∷ rest) = Good a × Every Good rest

-- whatever the symbol
abbrev pub Any : {A : Type 0} → A → Type 0
Any a = Unit {0}

-- an action goes on: it takes a symbol, or sends with nothing in view, or no action follows
pub data Moves {A S : Type 0} (m : Machine A S) (s : S) (view : List A) : Type 0 where
  takes_some : 0 < m.takes s view → Moves m s view
  sends_some : view ≡ [] → 0 < length (m.says s view) → Moves m s view
  stops : m.need (m.after s view) ≡ runs → Moves m s view

module _ {A S : Type 0} (m : Machine A S) (Good : A → Type 0) where
  -- P, of the events so far and the state, is kept by every action on good symbols
  abbrev pub Kept : (P : List (Event A S) → S → Type 0) → Type 0
  Kept P =
      (events : List (Event A S)) (s : S) (view : List A) (views : ℕ) → m.need s ≡ acts views → length view ≡ views →
      Every Good view → P events s → P (record { state = s; view = view } ∷ events) (m.after s view)

  pub record Lawful (Sound : S → Type 0) : Type 0 where
    pub stays_sound : Kept (λ _ s. Sound s)
    pub takes_in_view : (s : S) (view : List A) → m.takes s view ≤ length view
    pub moves : (s : S) (view : List A) (views : ℕ) → m.need s ≡ acts views → length view ≡ views → Moves m s view
    pub due_falls : (s : S) → Sound s → m.need s ≡ acts 0 → m.due s ≡ suc (m.due (m.after s []))
