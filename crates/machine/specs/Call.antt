-- A call, which acts until it is blocked (rules, 3.2), and a list of calls to one session.
-- Assumes nothing.
use Rattle.std.specs.Prelude.{ℕ, zero, suc, ◌+◌, ◌-◌, ◌≤◌, ◌<◌, ◌≡◌, cond, ◌&&◌, List, [], ◌∷◌, leb, ltb, length, take, drop}
use Rattle.machine.specs.Machine.{Need, acts, runs, Machine}
use Rattle.machine.specs.Outcome.{Outcome, halt, acted, join}

-- one entry of a list: a call that is shown `shown` of the symbols not yet taken, with room for `room` reply bytes; or a refused call
pub data Call : Type 0 where
  offered : (shown room : ℕ) → Call
  refused : Call

-- where a call has stopped, with `left` symbols left: 1 an action needs more, 2 it needs room, 3 code runs
abbrev pub standing_of : Need → (left : ℕ) → ℕ
standing_of (acts views) left = cond (ltb left views) 1 2
standing_of runs left = 3

module _ {A S : Type 0} (m : Machine A S) where
  abbrev pub standing : S → (left : List A) → ℕ
  standing s left = standing_of (m.need s) (length left)

  -- at most `fuel` actions, each as far as the input shows its symbols and the room holds its bytes
  unfoldable pub act : (fuel : ℕ) → Need → S → (input : List A) (room : ℕ) → Outcome S
  act zero need s input room = halt s
  act (suc fuel) runs s input room = halt s
  act (suc fuel) (acts views) s input room =
      let view = take views input in
      let said = m.says s view in
      let takes = m.takes s view in
      let next = m.after s view in
      cond (leb views (length input) && leb (length said) room)
      (join (acted said takes next) (act fuel (m.need next) next (drop takes input) (room - length said)))
      (halt s)

  -- each action of a lawful machine takes a symbol, sends a byte or is the last one, so this many suffice
  unfoldable pub call : S → (input : List A) (room : ℕ) → Outcome S
  call s input room = act (suc (length input + room)) (m.need s) s input room

  -- what a lawful machine's call must satisfy: it keeps to its input and its room, and an action that it left undone lacks symbols or
  -- room
  pub record Blocked (input : List A) (room : ℕ) (o : Outcome S) : Type 0 where
    pub within : o.taken ≤ length input
    pub fits : length o.replies ≤ room
    pub full : (views : ℕ) → m.need o.final ≡ acts views → views ≤ length (drop o.taken input) →
        room < length o.replies + length (m.says o.final (take views (drop o.taken input)))

  -- a list of calls, where `rest` is the part of the stream not yet taken
  unfoldable pub calls : S → (rest : List A) → List Call → Outcome S
  calls s rest [] = halt s
  calls s rest (offered shown room ∷ later) =
      let o = call s (take shown rest) room in
      join o (calls o.final (drop o.taken rest) later)
  calls s rest (refused ∷ later) = calls s rest later
