-- Code bytes taken one by one are one copy into the RAM.
-- Assumes nothing.
use Prim.Native.Nat.{ℕ, ◌+◌, ◌<◌, ◌≤◌}
use mathlib.Core.Path.{◌≡◌, refl}
use mathlib.Core.List.{List}
use lib.ListN.{length, set}
use borrow.Author.Tests.{lt-ltb}
use Rattle.memory.specs.Copy.{Copied}
use Rattle.machine.specs.Does.{takes}
use Rattle.machine.specs.Steps.{Taken}
use Rattle.machine.proofs.Bulks.{bulk-taken}
use Rattle.rom_flow.specs.declared.kind.Kind.{Kind}
use Rattle.rom_flow.specs.declared.step.Step.{Step}
use Rattle.rom_flow.specs.declared.step.Step.TheVariants.{TakeCode}
use Rattle.rom_flow.specs.State.{State, state}
use Rattle.rom_flow.specs.Flow.{code_step, does}
use Rattle.rom_flow.specs.Due.{due}
use Rattle.rom_flow.specs.Receiver.{receiver}

module _ (kind : Kind) (total reason : ℕ) where
  -- with `count` of the code's bytes in
  abbrev at : (ram : List ℕ) (count : ℕ) → State
  at ram count = state kind (code_step total count) reason ram

  takes-next : (ram : List ℕ) (k : ℕ) → k < total → does (at ram k) ≡ takes (λ b. at (set ram k b) (k + 1))
  takes-next ram k h = rw (lt-ltb k total h) refl

  pub code-taken : (input : List ℕ) (i : ℕ) (ram ram' : List ℕ) (place count : ℕ) → place < total → total ≤ length ram → i < length input →
      Copied input i ram place total ram' count → (next : Step) → next ≡ code_step total (place + count) →
      Taken receiver input i (state kind (TakeCode total place) reason ram) count (state kind next reason ram')
  code-taken input i ram ram' place count inside fits h c next e =
      rw e (rw (lt-ltb place total inside) at (bulk-taken does due at total takes-next input i ram place fits count ram' inside h c))
