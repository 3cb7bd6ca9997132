-- Every record that calls can reach is accepted.
-- Assumes nothing.
use Rattle.std.specs.Prelude.{Option, Some, None}
use native.Mathlib.Omega.{arith}
use mathlib.Core.Path.{◌≡◌, refl, sym, subst, ◌∙◌}
use lib.ListN.{length}
use Rattle.machine.specs.Lawful.{Any}
use Rattle.machine.specs.Reach.{Reach}
use Rattle.machine.specs.Session.{sound}
use Rattle.machine.specs.declared.Record.{Record}
use Rattle.machine.proofs.Reaches.{Readable, reach}
use Rattle.machine.proofs.Refusals.{sound-same, never-sound}
use Rattle.memory.specs.Memories.{Memories, SameLengths}
use Rattle.uartboot_flow.specs.State.{State, state}
use Rattle.uartboot_flow.specs.Fresh.{fresh_record, fresh}
use Rattle.uartboot_flow.proofs.Laws.{same-lengths, held}
use Rattle.uartboot_flow.proofs.Sounds.{Held}
use Rattle.uartboot_record.specs.Record.{written, decoded_of}
use Rattle.uartboot_record.proofs.Records.{decoded-sound, reads_back}
use Rattle.uartboot.specs.Session.{uartboot}
use Rattle.uartboot.proofs.Calls.{fitting, fitting-accepted}
use Rattle.uartboot_flow.specs.declared.step.Step.{Step}

starts : (m : Memories) → uartboot.write (fresh m) ≡ fresh_record
unfolding written
starts m = refl

-- a record that is read stands for a sound state with the memories that are lent
read_held : (r : Record) (m : Memories) (s : State) → uartboot.refusal m ≡ 0 → uartboot.read r m ≡ sound s → Held m s
read_held r m s f e = go (decoded_of (length m.ram) (length m.work) r) refl
  where
    go : (d : Option Step) → decoded_of (length m.ram) (length m.work) r ≡ d → Held m s
    go (Some step) q =
        let is : state step r.reason m ≡ s = sound-same (state step r.reason m) s (rw q at e) in
        let sound-step = decoded-sound (length m.ram) (length m.work) r step q in
        subst (Held m) is (record { ready = record { fitting = fitting _ _ _ f; step_sound = sound-step }; same = same-lengths m })
    go None q = absurd (never-sound s (rw q at e))

-- a state's record is read with any memories of these lengths
held-read : (m m' : Memories) (s : State) → Held m s → SameLengths m' m → Readable uartboot (uartboot.write s) m'
unfolding written
held-read m m' s h l =
    let k = h.same in
    let same_ram : length m'.ram ≡ length s.mem.ram = l.same_ram ∙ sym k.same_ram in
    let same_flash : length m'.flash ≡ length s.mem.flash = l.same_flash ∙ sym k.same_flash in
    let same_work : length m'.work ≡ length s.mem.work = l.same_work ∙ sym k.same_work in
    let fits = fitting-accepted _ _ _ h.ready.fitting in
    let back = reads_back (length s.mem.ram) (length s.mem.work) s.step s.reason h.ready.step_sound in
    record { fits = rw (same_ram, same_flash, same_work, fits) refl; state = state s.step s.reason m'; reads = rw (same_ram, same_work, back) refl }

pub records-reached : Reach uartboot SameLengths fresh fresh_record
records-reached =
    reach uartboot SameLengths fresh fresh_record Held (record {
      lawful = λ m. held m Any;
      starts = starts;
      same = same-lengths;
      fresh-held = λ m e. record { ready = record { fitting = fitting _ _ _ e; step_sound = omega arith }; same = same-lengths m };
      read_held = read_held;
      held-read = held-read;
    })
