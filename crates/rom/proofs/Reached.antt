-- Every record that calls can reach is accepted.
-- Assumes nothing.
use Rattle.std.specs.Prelude.{Option, Some, None}
use Prim.Native.Nat.{ℕ}
use mathlib.Core.Path.{◌≡◌, refl, sym, subst, ◌∙◌}
use mathlib.Core.Bool.{Bool, true, false, cond}
use mathlib.Core.List.{List}
use native.Mathlib.Omega.{arith}
use lib.ListN.{length}
use Rattle.wire.specs.Length.{is_ram_length}
use Rattle.machine.specs.Lawful.{Any}
use Rattle.machine.specs.Reach.{Reach}
use Rattle.machine.specs.Session.{sound}
use Rattle.machine.specs.declared.Record.{Record}
use Rattle.machine.proofs.Reaches.{Readable, reach}
use Rattle.machine.proofs.Refusals.{sound-same, never-sound}
use Rattle.rom_flow.specs.declared.kind.Kind.{Kind}
use Rattle.rom_flow.specs.State.{State, state}
use Rattle.rom_flow.specs.Fresh.{kind_number, fresh_record, fresh}
use Rattle.rom_flow.proofs.Sounds.{Held}
use Rattle.rom_flow.proofs.Laws.{held}
use Rattle.rom_record.specs.Record.{written, decoded_of}
use Rattle.rom.specs.Session.{rom}
use Rattle.rom_record.proofs.Records.{decoded-sound, reads_back}
use Rattle.rom_flow.specs.declared.step.Step.{Step}

-- a RAM's length is accepted exactly if it is not refused
pub ram-fits : (t : Bool) → ◌≡◌ {A = ℕ} (cond t 0 2) 0 → t ≡ true
ram-fits true e = refl
ram-fits false e = let z : ⊥ = omega arith in absurd z

starts : (kind : Kind) (ram : List ℕ) → rom.write (fresh kind ram) ≡ fresh_record (kind_number kind)
unfolding written
starts kind ram = refl

-- a record that is read stands for a sound state with the RAM that is lent
read_held : (r : Record) (ram : List ℕ) (s : State) → rom.refusal ram ≡ 0 → rom.read r ram ≡ sound s → Held ram s
read_held r ram s f e = go (decoded_of (length ram) r) refl
  where
    go : (d : Option (Kind × Step)) → decoded_of (length ram) r ≡ d → Held ram s
    go (Some (kind, step)) q =
        let is : state kind step r.reason ram ≡ s = sound-same (state kind step r.reason ram) s (rw q at e) in
        subst (Held ram) is (record { ready = record { fits = ram-fits (is_ram_length (length ram)) f; step_sound = decoded-sound (length ram) r kind step q }; same = refl })
    go None q = absurd (never-sound s (rw q at e))

abbrev SameLength : (ram' ram : List ℕ) → Type 0
SameLength ram' ram = length ram' ≡ length ram

-- a state's record is read with any RAM of this length
held-read : (ram ram' : List ℕ) (s : State) → Held ram s → SameLength ram' ram → Readable rom (rom.write s) ram'
unfolding written
held-read ram ram' s h l =
    let same : length ram' ≡ length s.ram = l ∙ sym h.same in
    let back = reads_back s.kind (length s.ram) s.step s.reason h.ready.step_sound in
    record { fits = rw (same, h.ready.fits) refl; state = state s.kind s.step s.reason ram'; reads = rw (same, back) refl }

pub records-reached : (kind : Kind) → Reach rom SameLength (fresh kind) (fresh_record (kind_number kind))
records-reached kind =
    reach rom SameLength (fresh kind) (fresh_record (kind_number kind)) Held (record {
      lawful = λ ram. held ram Any;
      starts = starts kind;
      same = λ ram. refl;
      fresh-held = λ ram e. record { ready = record { fits = ram-fits (is_ram_length (length ram)) e; step_sound = tt }; same = refl };
      read_held = read_held;
      held-read = held-read;
    })
