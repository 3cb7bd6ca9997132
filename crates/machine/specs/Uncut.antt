-- The uncut definition (rules, 3.4): it is fed the uncut stream, and its reply room never ends.
-- Assumes nothing.
use Rattle.std.specs.Prelude.{ℕ, zero, suc, cond, List, [], leb, length, take, drop}
use Rattle.machine.specs.Machine.{Need, acts, runs, Machine}
use Rattle.machine.specs.Outcome.{Outcome, halt, acted, join}

module _ {A S : Type 0} (m : Machine A S) where
  -- the actions with nothing in view, up to one that needs a symbol, or until code runs
  abbrev pub drain_at : (fuel : ℕ) → Need → S → Outcome S
  drain_at zero need s = halt s
  drain_at (suc fuel) runs s = halt s
  drain_at (suc fuel) (acts (suc views)) s = halt s
  drain_at (suc fuel) (acts zero) s =
      let next = m.after s [] in
      join (acted (m.says s []) 0 next) (drain_at fuel (m.need next) next)

  unfoldable pub drain : S → Outcome S
  drain s = drain_at (m.due s) (m.need s) s

  -- an action with symbols in view and then what is due, again and again, from a state where nothing is due
  unfoldable pub feed : (fuel : ℕ) → Need → S → (stream : List A) → Outcome S
  feed zero need s stream = halt s
  feed (suc fuel) runs s stream = halt s
  feed (suc fuel) (acts zero) s stream = halt s
  feed (suc fuel) (acts (suc views)) s stream =
      let view = take (suc views) stream in
      let takes = m.takes s view in
      let d = drain (m.after s view) in
      cond (leb (suc views) (length stream))
      (join (acted (m.says s view) takes (m.after s view)) (join d (feed fuel (m.need d.final) d.final (drop takes stream))))
      (halt s)

  -- until the stream doesn't show what an action needs, or code runs
  unfoldable pub uncut : S → (stream : List A) → Outcome S
  uncut s stream =
      let d = drain s in
      join d (feed (suc (length stream)) (m.need d.final) d.final stream)
