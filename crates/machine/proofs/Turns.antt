-- The turns of a program's loop over the actions of a machine.
-- Assumes nothing.
use Prim.Native.Nat.{ℕ, ◌+◌, ◌-◌, ◌≤◌, ◌<◌}
use native.Mathlib.Omega.{arith}
use mathlib.Core.Path.{◌≡◌}
use mathlib.Core.List.{List, [], ◌∷◌}
use lib.ListN.{length, get_or}
use Rattle.machine.specs.Machine as machine
use Rattle.machine.specs.Machine.{Machine}
use Rattle.machine.specs.Lawful.{Any, Lawful}
use Rattle.machine.specs.Loop.{Acted}
use Rattle.machine.specs.Steps.{Taken, Sent}
use Rattle.machine.proofs.Loops.{Reached, reached-start, reached-look, acted-hungry, acted-choked, acted-runs}
use Rattle.machine.proofs.Repeats.{reached-takes, reached-sends, takes-keep, sends-keep, takes-fit, sends-fit, sends-length}

-- a call at s₀ of a lawful machine whose takes send nothing has come to s, which is sound, with i bytes taken and j sent
pub record Turn {S : Type 0} (m : Machine ℕ S) (Sound : S → Type 0) (s₀ : S) (input old : List ℕ) (s : S) (reply : List ℕ) (i j : ℕ) : Type 0 where
  pub silent : (s : S) (a : ℕ) → m.says s (a ∷ []) ≡ []
  pub law : Lawful m Any Sound
  pub reached : Reached m s₀ input old s i j reply
  pub keeps : Sound s

module _ {S : Type 0} {m : Machine ℕ S} {Sound : S → Type 0} {s₀ : S} {input old : List ℕ} where
  pub turn-begins : ((s : S) (a : ℕ) → m.says s (a ∷ []) ≡ []) → Lawful m Any Sound → Sound s₀ → Turn m Sound s₀ input old s₀ old 0 0
  turn-begins silent law h = record { silent = silent; law = law; reached = reached-start m s₀ input old; keeps = h }

  module _ {s : S} {reply : List ℕ} {i j : ℕ} (t : Turn m Sound s₀ input old s reply i j) where
    pub turn-took : {s' : S} {count : ℕ} → Taken m input i s count s' → Turn m Sound s₀ input old s' reply (i + count) j
    turn-took h = record { silent = t.silent; law = t.law; reached = reached-takes m t.silent t.law t.reached h.takes; keeps = takes-keep m Sound t.law.stays_sound h.takes t.keeps }

    pub turn-sent : {s' : S} {count : ℕ} {reply' : List ℕ} → Sent m s j reply count s' reply' → Turn m Sound s₀ input old s' reply' i (j + count)
    turn-sent h = record { silent = t.silent; law = t.law; reached = reached-sends m t.silent t.law t.reached h.sends; keeps = sends-keep m Sound t.law.stays_sound h.sends t.keeps }

    -- what is left of input and room gets less with each turn
    pub turn-took-fits : {s' : S} {count : ℕ} → Taken m input i s count s' → i + count ≤ length input
    turn-took-fits h = takes-fit m h.takes t.reached.taken-fits

    pub turn-took-less : {s' : S} {count : ℕ} → Taken m input i s count s' → length input - (i + count) + (length reply - j) < length input - i + (length reply - j)
    turn-took-less h = omega (arith, h.some, turn-took-fits h)

    pub turn-sent-fits : {s' : S} {count : ℕ} {reply' : List ℕ} → Sent m s j reply count s' reply' → j + count ≤ length reply'
    turn-sent-fits h = sends-fit m h.sends t.reached.sent-fits

    pub turn-sent-less : {s' : S} {count : ℕ} {reply' : List ℕ} → Sent m s j reply count s' reply' →
        length input - i + (length reply' - (j + count)) < length input - i + (length reply - j)
    turn-sent-less h = omega (arith, h.some, turn-sent-fits h, sends-length m h.sends)

    -- where the loop stops: since a byte is missing, since room is missing, since no action is left
    pub turn-hungry : m.need s ≡ machine.take_one → length input ≤ i → Acted m s₀ input old i j 1 s reply
    turn-hungry e h = acted-hungry m t.law t.reached e h

    pub turn-choked : m.need s ≡ machine.send_one → 0 < length (m.says s []) → length reply ≤ j → Acted m s₀ input old i j 2 s reply
    turn-choked e speaks h = acted-choked m t.law t.reached e speaks h

    pub turn-halts : m.need s ≡ machine.runs → Acted m s₀ input old i j 3 s reply
    turn-halts e = acted-runs m _ input old _ i j reply t.reached e

    -- since none is left after a look at the next byte, which may stay untaken
    pub turn-looked : m.need s ≡ machine.take_one → i < length input → let view = get_or input i 0 ∷ [] in m.need (m.after s view) ≡ machine.runs →
        Acted m s₀ input old (i + m.takes s view) j 3 (m.after s view) reply
    turn-looked e h f = acted-runs m _ input old _ (i + m.takes s (get_or input i 0 ∷ [])) j reply (reached-look m t.law t.reached 0 e h (t.silent s (get_or input i 0))) f
