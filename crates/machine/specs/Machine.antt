-- A session as a deterministic machine over input symbols A and states S: it takes, it sends, or code runs (rules, 3.2).
-- Assumes nothing.
use Rattle.std.specs.Prelude.{ℕ, Bool, true, false, List, [], ◌∷◌, length}

-- what the next action asks: `views` symbols in view; or that there is no action, since code runs
pub data Need : Type 0 where
  acts : (views : ℕ) → Need
  runs : Need

-- code runs
abbrev pub is_running : Need → Bool
is_running (acts views) = false
is_running runs = true

pub record Machine (A S : Type 0) : Type 0 where
  pub need : S → Need
  -- the state after an action, the bytes that it sends and how many of the symbols it takes, by the symbols in view
  pub after : S → List A → S
  pub says : S → List A → List ℕ
  pub takes : S → List A → ℕ
  -- how many actions follow one another with nothing in view
  pub due : S → ℕ

-- a line's actions: take one symbol and send nothing, or send one byte with nothing in view
abbrev pub take_one : Need
take_one = acts 1

abbrev pub send_one : Need
send_one = acts 0

module _ {A S : Type 0} where
  abbrev pub line_after : (took : S → A → S) (sent : S → S) → S → List A → S
  line_after took sent s [] = sent s
  line_after took sent s (a ∷ view) = took s a

  abbrev pub line_says : (byte : S → ℕ) → S → List A → List ℕ
  line_says byte s [] = byte s ∷ []
  line_says byte s (a ∷ view) = []

  -- a machine whose needs are take_one, send_one and runs: what a taken symbol does, the byte to send, the state once it is sent
  abbrev pub line : (need : S → Need) (took : S → A → S) (byte : S → ℕ) (sent : S → S) (due : S → ℕ) → Machine A S
  line need took byte sent due = record { need = need; after = line_after took sent; says = line_says byte; takes = λ s view. length view; due = due }
