-- Several takes, or several sends, in a row, as a program makes them in one go.
-- Assumes nothing.
use Rattle.std.specs.Prelude.{ℕ, suc, ◌+◌, ◌<◌, ◌≡◌, List, [], ◌∷◌, length, get_or, set}
use Rattle.machine.specs.Machine.{Machine}
use Rattle.machine.specs.Machine as machine

module _ {S : Type 0} (m : Machine ℕ S) where
  -- from s, `count` takes of the input's bytes from byte i on lead to a state
  pub data Takes (input : List ℕ) (i : ℕ) (s : S) : (count : ℕ) → S → Type 0 where
    none : Takes input i s 0 s
    more : {count : ℕ} {t : S} → Takes input i s count t → m.need t ≡ machine.take_one →
        m.takes t (get_or input (i + count) 0 ∷ []) ≡ 1 → i + count < length input →
        Takes input i s (suc count) (m.after t (get_or input (i + count) 0 ∷ []))

  -- from s, `count` sends into a reply slice from byte j on lead to a state and to what the slice then holds
  pub data Sends (s : S) (j : ℕ) (old : List ℕ) : (count : ℕ) → S → List ℕ → Type 0 where
    none : Sends s j old 0 s old
    more : {count byte : ℕ} {t : S} {reply : List ℕ} → Sends s j old count t reply → m.need t ≡ machine.send_one → m.says t [] ≡ byte ∷ [] →
        j + count < length reply → Sends s j old (suc count) (m.after t []) (set reply (j + count) byte)

  -- one or more takes
  pub record Taken (input : List ℕ) (i : ℕ) (s : S) (count : ℕ) (t : S) : Type 0 where
    pub some : 0 < count
    pub takes : Takes input i s count t

  -- one or more sends
  pub record Sent (s : S) (j : ℕ) (old : List ℕ) (count : ℕ) (t : S) (reply : List ℕ) : Type 0 where
    pub some : 0 < count
    pub sends : Sends s j old count t reply
