-- Selectors that the definition shuts out (rules, 3.8): those that are stuck on a slot.
-- Assumes nothing.
use Rattle.std.specs.Prelude.{◌≡◌, ℕ, List}
use Rattle.wire.specs.Bytes.{Bytes, Word}
use Rattle.slot.specs.declared.Selected.{Selected}
use Rattle.slot.specs.Slot.{select_of}

-- a selector's routine
abbrev pub Routine : Type 0
Routine = (flash : List ℕ) (offset : ℕ) → Selected

-- it keeps the selector's promise, for every flash and every offset that it can be given
abbrev pub Keeps : Routine → Type 0
Keeps f = (flash : List ℕ) (offset : ℕ) → Bytes flash → Word offset → f flash offset ≡ select_of flash offset

-- it gives this slot wherever it does not refuse
abbrev pub StuckOn : (slot : ℕ) → Routine → Type 0
StuckOn slot f = (flash : List ℕ) (offset : ℕ) → Bytes flash → Word offset → (f flash offset).number ≡ 0 → (f flash offset).slot ≡ slot

-- no routine that keeps the promise is stuck on a slot, be it 1, 2 or any other number
abbrev pub NobodyIsStuck : Type 0
NobodyIsStuck = (f : Routine) (slot : ℕ) → Keeps f → StuckOn slot f → ⊥
