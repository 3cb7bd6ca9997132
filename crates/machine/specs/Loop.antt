-- What a program's loop over a machine's actions must give back: a call's outcome, in numbers, a state and the lent reply slice.
-- Assumes nothing.
use Rattle.std.specs.Prelude.{ℕ, ◌≡◌, List, length, drop}
use Rattle.memory.specs.Store.{laid}
use Rattle.machine.specs.Machine.{Machine}
use Rattle.machine.specs.Call.{standing, call}

module _ {A S : Type 0} (m : Machine A S) where
  -- the call at s, with this input and a reply slice that held `old`: it took `taken` symbols and sent `sent` bytes, stands at `stands`,
  -- came to `final`, and left `reply` in the slice
  pub record Acted (s : S) (input : List A) (old : List ℕ) (taken sent stands : ℕ) (final : S) (reply : List ℕ) : Type 0 where
    pub taken_is : taken ≡ (call m s input (length old)).taken
    pub sent_is : sent ≡ length (call m s input (length old)).replies
    pub stands_is : stands ≡ standing m (call m s input (length old)).final (drop (call m s input (length old)).taken input)
    pub final_is : final ≡ (call m s input (length old)).final
    pub reply_is : reply ≡ laid (call m s input (length old)).replies old
