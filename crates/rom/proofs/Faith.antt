-- What the receiver keeps to, so that its lists of calls follow its definition: code runs exactly when its checksum is acknowledged.
-- Assumes nothing.
use Prim.Native.Nat.{ℕ, ◌+◌}
use mathlib.Core.Path.{◌≡◌, refl, sym, ap, ◌∙◌}
use mathlib.Core.Bool.{Bool, true, false, cond, ◌&&◌, and-false}
use mathlib.Core.List.{List, [], ◌∷◌}
use lib.Dec.{eqb, leb, ltb}
use lib.ListN.{length, set}
use Rattle.wire.specs.Bytes.{Byte}
use Rattle.wire.specs.Length.{is_ram_length}
use Rattle.wire.specs.Line.{soh, ack}
use Rattle.numbers.specs.Number.{paired}
use Rattle.wire.specs.Unit.{first_address}
use Rattle.wire.proofs.Tests.{in-cond}
use Rattle.machine.specs.Machine.{is_running}
use Rattle.machine.specs.Does.{Does, takes, sends, runs, need_of}
use Rattle.machine.specs.History.{Event}
use Rattle.machine.specs.Acknowledged.{RunsExactly}
use Rattle.machine.specs.SessionLaws.{OneByOne, Faithful}
use Rattle.machine.proofs.Acknowledgements.{runs_on}
use Rattle.machine.proofs.Doing.{Leaves, does-one, does-speaks, does-kept}
use Rattle.rom_flow.specs.declared.kind.Kind.{Kind}
use Rattle.rom_flow.specs.declared.kind.Kind.TheVariants.{P, E}
use Rattle.rom_flow.specs.declared.step.HeaderStep.{HeaderStep}
use Rattle.rom_flow.specs.declared.step.HeaderStep.TheVariants.{TakeSoh, TakeLow, TakeHigh, TakeExtendedLow, TakeExtendedHigh}
use Rattle.rom_flow.specs.declared.step.Step.{Step}
use Rattle.rom_flow.specs.declared.step.Step.TheVariants.{SendStx, Header, SendAck, TakeCode, SendXor, TakeAck, SendNak, Running}
use Rattle.rom_flow.specs.State.{State, state}
use Rattle.rom_flow.specs.Flow.{not_acked, first_extended, zero_length, judged, goes, header, does_at, does}
use Rattle.rom_flow.specs.Due.{due}
use Rattle.rom_flow.specs.Receiver.{receiver}
use Rattle.rom_flow.specs.Fresh.{fresh}
use Rattle.rom_flow.specs.Sound.{Sound}
use Rattle.rom_flow.proofs.Laws.{lawful}
use Rattle.rom_record.specs.Record.{written}
use Rattle.rom.specs.Session.{rom}
use Rattle.rom.specs.Awaits.{awaits}
use Rattle.rom_record.proofs.Records.{reads_back}
use Rattle.rom.proofs.Reached.{ram-fits}

abbrev running : State → Bool
running s = is_running (need_of (does s))

abbrev Quiet : State → Type 0
Quiet s = running s ≡ false

-- a taken byte starts the code exactly if it is the acknowledgement; a sent byte starts nothing
abbrev Starts : State → Does ℕ State → Type 0
Starts s (takes next) = (b : ℕ) → running (next b) ≡ (awaits s && eqb b ack)
Starts s (sends byte next) = Quiet next
Starts s runs = Unit {0}

module _ (kind : Kind) (reason : ℕ) (ram : List ℕ) where
  judged-quiet : (total : ℕ) → Quiet (judged kind reason ram total)
  judged-quiet total = in-cond Quiet (leb total (length ram)) _ _ (λ e. refl) (λ e. refl)

zero-quiet : (kind : Kind) (reason : ℕ) (ram : List ℕ) → Quiet (zero_length kind reason ram)
zero-quiet P reason ram = refl
zero-quiet E reason ram = refl

module _ (kind : Kind) (reason : ℕ) (ram : List ℕ) where
  header-starts : (step : HeaderStep) → Starts (state kind (Header step) reason ram) (header kind reason ram step)
  header-starts TakeSoh = λ b. in-cond Quiet (eqb b soh) _ _ (λ e. refl) (λ e. refl)
  header-starts TakeLow = λ b. refl
  header-starts (TakeHigh low) = λ b. in-cond Quiet (eqb (paired low b) 0) _ _ (λ e. zero-quiet kind reason ram) (λ e. judged-quiet kind reason ram (paired low b))
  header-starts TakeExtendedLow = λ b. refl
  header-starts (TakeExtendedHigh low) = λ b. judged-quiet kind reason ram (first_extended + paired low b)

  step-starts : (step : Step) → Starts (state kind step reason ram) (does_at kind reason ram step)
  step-starts SendStx = refl
  step-starts (Header step) = header-starts step
  step-starts (SendAck total) = refl
  step-starts (TakeCode total place) =
      λ b. in-cond (λ (next : Step). Quiet (state kind next reason (set ram place b))) (ltb (place + 1) total) (TakeCode total (place + 1)) (SendXor total) (λ e. refl) (λ e. refl)
  step-starts (SendXor total) = refl
  step-starts (TakeAck total) = λ b. go (eqb b ack)
    where
      go : (t : Bool) → running (cond t (goes kind reason ram (Running first_address)) (state kind SendStx not_acked ram)) ≡ t
      go true = refl
      go false = refl
  step-starts SendNak = refl
  step-starts (Running address) = tt

runs-kept : (events : List (Event ℕ State)) (s : State) → RunsExactly awaits receiver events s → Leaves Byte (RunsExactly awaits receiver) events s (does s)
runs-kept events s h = go (does s) refl (step-starts s.kind s.reason s.ram s.step)
  where
    go : (d : Does ℕ State) → does s ≡ d → Starts s d → Leaves Byte (RunsExactly awaits receiver) events s d
    go (takes next) e l = λ b g. runs_on awaits receiver events s (next b) (b ∷ []) 1 (ap (λ (d : Does ℕ State). need_of d) e) h (l b)
    go (sends byte next) e l =
        runs_on awaits receiver events s next [] 0 (ap (λ (d : Does ℕ State). need_of d) e) h (l ∙ sym (and-false (awaits s)))
    go runs e l = tt

pub one_by_one : OneByOne receiver
one_by_one = does-one does due

-- the receiver's lists of calls follow its definition
pub faithful : (kind : Kind) → Faithful rom Byte (fresh kind) Sound (RunsExactly awaits receiver)
unfolding written
faithful kind =
    record {
      lawful = lawful Byte;
      speaks = does-speaks does due;
      fresh_sound = λ ram e. record { fits = ram-fits (is_ram_length (length ram)) e; step_sound = tt };
      fresh_memories = λ ram. refl;
      fits = λ s g. rw g.fits refl;
      reads_back = λ s g. rw (reads_back s.kind (length s.ram) s.step s.reason g.step_sound) refl;
      at_first = λ ram e. refl;
      kept = does-kept does due Byte (RunsExactly awaits receiver) runs-kept;
    }
