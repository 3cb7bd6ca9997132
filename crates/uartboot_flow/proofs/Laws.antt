-- The session is a lawful machine, and its actions keep the lengths of the memories.
-- Assumes nothing.
use Prim.Native.Nat.{ℕ}
use mathlib.Core.Path.{refl}
use mathlib.Core.List.{[]}
use Rattle.machine.specs.Lawful.{Lawful}
use Rattle.machine.proofs.Doing.{does-lawful, leaves-weaken}
use Rattle.memory.specs.Memories.{Memories, SameLengths}
use Rattle.uartboot_flow.specs.Flow.{does}
use Rattle.uartboot_flow.specs.Due.{due}
use Rattle.uartboot_flow.specs.Device.{device}
use Rattle.uartboot_flow.specs.Sound.{Sound}
use Rattle.uartboot_flow.proofs.Sounds.{Held, stays-held}
use Rattle.uartboot_flow.proofs.Dues.{does-due}

pub same-lengths : (m : Memories) → SameLengths m m
same-lengths m = record { same_ram = refl; same_flash = refl; same_work = refl }

pub held : (m₀ : Memories) (Good : ℕ → Type 0) → Lawful device Good (Held m₀)
held m₀ Good = does-lawful does due Good (Held m₀) (stays-held m₀ Good) (λ s h. does-due s.reason s.mem s.step h.ready)

pub lawful : (Good : ℕ → Type 0) → Lawful device Good Sound
lawful Good =
    does-lawful does due Good Sound
    (λ s h. leaves-weaken Good (Held s.mem) Sound [] s (does s) (λ t k. k.ready) (stays-held s.mem Good s (record { ready = h; same = same-lengths s.mem })))
    (λ s h. does-due s.reason s.mem s.step h)
