-- Every action leaves a sound state, and a RAM of the same length.
-- Assumes nothing.
use Prim.Native.Nat.{ℕ, ◌+◌, ◌<◌, ◌≤◌}
use native.Mathlib.Omega.{arith}
use mathlib.Core.Path.{◌≡◌, ◌∙◌}
use mathlib.Core.Bool.{true}
use mathlib.Core.List.{List, []}
use lib.Dec.{eqb, leb, ltb}
use lib.ListN.{length, set, length-set}
use borrow.Author.Tests.{leb-true, ltb-true, eqb-false}
use Rattle.wire.specs.Length.{is_ram_length}
use Rattle.wire.specs.Line.{soh, ack}
use Rattle.numbers.specs.Number.{paired}
use Rattle.wire.specs.Unit.{ram_base, first_address}
use Rattle.wire.proofs.Ranges.{lies-first}
use Rattle.wire.proofs.Tests.{in-cond}
use Rattle.machine.specs.Does.{Does}
use Rattle.machine.proofs.Doing.{Leaves}
use Rattle.rom_flow.specs.declared.kind.Kind.{Kind}
use Rattle.rom_flow.specs.declared.kind.Kind.TheVariants.{P, E}
use Rattle.rom_flow.specs.declared.step.HeaderStep.{HeaderStep}
use Rattle.rom_flow.specs.declared.step.HeaderStep.TheVariants.{TakeSoh, TakeLow, TakeHigh, TakeExtendedLow, TakeExtendedHigh}
use Rattle.rom_flow.specs.declared.step.Step.{Step}
use Rattle.rom_flow.specs.declared.step.Step.TheVariants.{SendStx, Header, SendAck, TakeCode, SendXor, TakeAck, SendNak, Running}
use Rattle.rom_flow.specs.State.{State, state}
use Rattle.rom_flow.specs.Flow.{first_extended, not_soh, empty_code, long_code, not_acked, zero_length, code_step, goes, refuses, judged, headed, header, does_at, does}
use Rattle.rom_flow.specs.Sound.{SoundHeader, SoundStep, Ready}

-- a sound state whose RAM has the length of ram₀
pub record Held (ram₀ : List ℕ) (s : State) : Type 0 where
  pub ready : Ready s.kind s.step s.ram
  pub same : length s.ram ≡ length ram₀

module _ (ram₀ : List ℕ) where
  at : (kind : Kind) (step : Step) (reason : ℕ) (ram : List ℕ) → is_ram_length (length ram) ≡ true → length ram ≡ length ram₀ →
      SoundStep kind (length ram) step → Held ram₀ (state kind step reason ram)
  at kind step reason ram fits same h = record { ready = record { fits = fits; step_sound = h }; same = same }

  module _ (reason : ℕ) (ram : List ℕ) (fits : is_ram_length (length ram) ≡ true) (same : length ram ≡ length ram₀) where
    zero_held : (kind : Kind) → Held ram₀ (zero_length kind reason ram)
    zero_held P = at P SendNak empty_code ram fits same tt
    zero_held E = at E (Header TakeExtendedLow) reason ram fits same tt

    module _ (kind : Kind) where
      on : (step : Step) → SoundStep kind (length ram) step → Held ram₀ (goes kind reason ram step)
      on step h = at kind step reason ram fits same h

      refuses-held : (why : ℕ) → Held ram₀ (refuses kind reason ram why)
      refuses-held why = at kind SendNak why ram fits same tt

      judged-held : (total : ℕ) → 0 < total → Held ram₀ (judged kind reason ram total)
      judged-held total some =
          in-cond (Held ram₀) (leb total (length ram)) _ _ (λ e. on (SendAck total) (some, leb-true _ _ e)) (λ e. refuses-held long_code)

      headed-held : (total : ℕ) → Held ram₀ (headed kind reason ram total)
      headed-held total =
          in-cond (Held ram₀) (eqb total 0) _ _ (λ e. zero_held kind) (λ e. judged-held total (omega (arith, eqb-false total 0 e)))

  module _ (Good : ℕ → Type 0) (s : State) (kind : Kind) (reason : ℕ) (ram : List ℕ) (fits : is_ram_length (length ram) ≡ true)
      (same : length ram ≡ length ram₀) where
    abbrev Stays : Does ℕ State → Type 0
    Stays d = Leaves Good (λ _ t. Held ram₀ t) [] s d

    header-held : (step : HeaderStep) → SoundHeader kind step → Stays (header kind reason ram step)
    header-held TakeSoh h =
        λ b g. in-cond (Held ram₀) (eqb b soh) _ _ (λ e. on reason ram fits same kind (Header TakeLow) tt) (λ e. refuses-held reason ram fits same kind not_soh)
    header-held TakeLow h = λ b g. on reason ram fits same kind (Header (TakeHigh b)) tt
    header-held (TakeHigh low) h = λ b g. headed-held reason ram fits same kind (paired low b)
    header-held TakeExtendedLow h = λ b g. on reason ram fits same kind (Header (TakeExtendedHigh b)) h
    header-held (TakeExtendedHigh low) h = λ b g. judged-held reason ram fits same kind (first_extended + paired low b) (omega arith)

    code-held : (total count : ℕ) (ram' : List ℕ) → length ram' ≡ length ram → 0 < total → total ≤ length ram → Held ram₀ (state kind (code_step total count) reason ram')
    code-held total count ram' l some inside =
        in-cond (λ (next : Step). Held ram₀ (state kind next reason ram')) (ltb count total) (TakeCode total count) (SendXor total)
        (λ e. at kind (TakeCode total count) reason ram' (rw l fits) (l ∙ same) (ltb-true _ _ e, rw l inside))
        (λ e. at kind (SendXor total) reason ram' (rw l fits) (l ∙ same) (some, rw l inside))

    does-held : (step : Step) → SoundStep kind (length ram) step → Stays (does_at kind reason ram step)
    does-held SendStx h = on reason ram fits same kind (Header TakeSoh) tt
    does-held (Header step) h = header-held step h
    does-held (SendAck total) h = on reason ram fits same kind (TakeCode total 0) h
    does-held (TakeCode total place) h = λ b g. code-held total (place + 1) (set ram place b) (length-set ram place b) (omega (arith, h.0)) h.1
    does-held (SendXor total) h = on reason ram fits same kind (TakeAck total) h
    does-held (TakeAck total) h =
        λ b g. in-cond (Held ram₀) (eqb b ack) _ _
        (λ e. on reason ram fits same kind (Running first_address) (lies-first ram_base (length ram) (omega (arith, h.0, h.1))))
        (λ e. at kind SendStx not_acked ram fits same tt)
    does-held SendNak h = on reason ram fits same kind SendStx tt
    does-held (Running address) h = tt

  pub stays-held : (Good : ℕ → Type 0) (s : State) → Held ram₀ s → Leaves Good (λ _ t. Held ram₀ t) [] s (does s)
  stays-held Good s h = does-held Good s s.kind s.reason s.ram h.ready.fits h.same s.step h.ready.step_sound
