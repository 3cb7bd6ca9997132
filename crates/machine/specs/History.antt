-- What happened on the way: the actions of a machine. No action reads them.
-- Assumes nothing.
use Rattle.std.specs.Prelude.{ℕ, zero, suc, ◌≡◌, cond, List, [], ◌∷◌, leb, length, take, drop}
use Rattle.machine.specs.Machine.{Need, acts, runs, Machine}
use Rattle.machine.specs.Outcome.{Outcome, halt, acted, join}

-- an action: the state in which it was made, and the symbols in view
pub record Event (A S : Type 0) : Type 0 where
  pub state : S
  pub view : List A

-- from `start` on a stream, the events (the last one first) lead to an outcome
pub data Way {A S : Type 0} (m : Machine A S) (start : S) (stream : List A) : List (Event A S) → Outcome S → Type 0 where
  here : Way m start stream [] (halt start)
  more : {events : List (Event A S)} {o : Outcome S} {views : ℕ} {view : List A} →
      Way m start stream events o → m.need o.final ≡ acts views →
      view ≡ take views (drop o.taken stream) → length view ≡ views →
      Way m start stream (record { state = o.final; view = view } ∷ events)
      (join o (acted (m.says o.final view) (m.takes o.final view) (m.after o.final view)))

-- some events lead to the outcome
pub record Came {A S : Type 0} (m : Machine A S) (start : S) (stream : List A) (o : Outcome S) : Type 0 where
  pub events : List (Event A S)
  pub way : Way m start stream events o

-- these events lead to some outcome
pub record Leads {A S : Type 0} (m : Machine A S) (start : S) (stream : List A) (events : List (Event A S)) : Type 0 where
  pub outcome : Outcome S
  pub way : Way m start stream events outcome

-- the events of at most `fuel` actions on what is left of a stream, put before those so far; the room never ends
unfoldable pub trace : {A S : Type 0} → Machine A S → (fuel : ℕ) → Need → S → (rest : List A) → List (Event A S) → List (Event A S)
trace m zero need s rest events = events
trace m (suc fuel) runs s rest events = events
trace m (suc fuel) (acts views) s rest events =
    let view = take views rest in
    let next = m.after s view in
    cond (leb views (length rest))
    (trace m fuel (m.need next) next (drop (m.takes s view) rest) (record { state = s; view = view } ∷ events))
    events
