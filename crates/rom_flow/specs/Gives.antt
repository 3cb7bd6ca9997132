-- What the parts of the program give: a step and a reason, which with the RAM are the state that the flow comes to.
-- Assumes nothing.
use Rattle.std.specs.Prelude.{ℕ, ◌≡◌, List, length}
use Rattle.machine.specs.Steps.{Taken}
use Rattle.rom_flow.specs.declared.kind.Kind.{Kind}
use Rattle.rom_flow.specs.declared.step.Step.TheVariants.{TakeCode}
use Rattle.machine.specs.declared.step.Progress.{Progress}
use Rattle.machine.specs.declared.step.Moved.{Moved}
use Rattle.rom_flow.specs.State.{State, state}
use Rattle.rom_flow.specs.Receiver.{receiver}
use Rattle.rom_flow.specs.declared.step.Step.{Step}

-- whatever kind and RAM are
pub record EndsIn (p : Progress Step) (next : Kind → (ram : List ℕ) → State) : Type 0 where
  pub is : (kind : Kind) (ram : List ℕ) → state kind p.step p.reason ram ≡ next kind ram

-- for this kind and a RAM of `size` bytes
pub record Gives (size : ℕ) (kind : Kind) (p : Progress Step) (next : (ram : List ℕ) → State) : Type 0 where
  pub is : (ram : List ℕ) → length ram ≡ size → state kind p.step p.reason ram ≡ next ram

-- for each kind
pub record GivesEach (size : ℕ) (p : Progress Step) (next : Kind → (ram : List ℕ) → State) : Type 0 where
  pub is : (kind : Kind) → Gives size kind p (next kind)

-- code bytes were taken, whatever the kind is
pub record CodeTaken (total place reason : ℕ) (input : List ℕ) (i : ℕ) (ram : List ℕ) (moved : Moved Step) (ram' : List ℕ) : Type 0 where
  pub is : (kind : Kind) → Taken receiver input i (state kind (TakeCode total place) reason ram) moved.count (state kind moved.step moved.reason ram')
