-- A record that is read stands for a sound step, and a sound step's record is read as that step.
-- Assumes nothing.
use Rattle.std.specs.Prelude.{Option, Some, None, Result, Ok, Err}
use Prim.Native.Nat.{ℕ, ◌<◌}
use native.Mathlib.Omega.{arith}
use mathlib.Core.Path.{◌≡◌, refl, ap, subst}
use mathlib.Core.Bool.{cond}
use lib.Dec.{eqb, leb, ltb}
use borrow.Author.Tests.{leb-true, ltb-true, eqb-false, le-leb, lt-ltb, ne_eqb}
use Rattle.rom_flow.specs.declared.kind.Kind.{Kind}
use Rattle.rom_flow.specs.declared.kind.Kind.TheVariants.{P, E}
use Rattle.rom_flow.specs.declared.kind.UnknownKind.{UnknownKind}
use Rattle.rom_flow.specs.Fresh.{kind_of}
use Rattle.rom_flow.specs.declared.step.Step.{Step}
use Rattle.rom_flow.specs.declared.step.Step.TheVariants.{SendStx, Header, SendAck, TakeCode, SendXor, TakeAck, SendNak, Running}
use Rattle.rom_flow.specs.declared.step.HeaderStep.{HeaderStep}
use Rattle.rom_flow.specs.declared.step.HeaderStep.TheVariants.{TakeSoh, TakeLow, TakeHigh, TakeExtendedLow, TakeExtendedHigh}
use Rattle.rom_record.specs.declared.Numbers.{Numbers}
use Rattle.wire.specs.Unit.{is_in_ram}
use Rattle.wire.proofs.Tests.{in-cond}
use Rattle.machine.specs.declared.Record.{Record}
use Rattle.rom_record.specs.Record.{fields, header_fields, fields_of, written, sized, extended, places_of, phase_in, step_in, with_kind, decoded_with, decoded_of}
use Rattle.rom_flow.specs.Sound.{SoundHeader, SoundStep, Sized, Extends}

abbrev InFound : Kind → ℕ → Option Step → Type 0
InFound kind size (Some step) = SoundStep kind size step
InFound kind size None = Unit {0}

abbrev InDecoded : ℕ → Option (Kind × Step) → Type 0
InDecoded size (Some (kind, step)) = SoundStep kind size step
InDecoded size None = Unit {0}

sized-in : (kind : Kind) (size n : ℕ) (s : Step) → (Sized size n → SoundStep kind size s) → InFound kind size (sized size n s)
sized-in kind size n s f =
    in-cond (InFound kind size) (eqb n 0) _ _ (λ e. tt)
    (λ e. in-cond (InFound kind size) (leb n size) _ _ (λ l. f (omega (arith, eqb-false n 0 e), leb-true _ _ l)) (λ l. tt))

extended-in : (kind : Kind) (size : ℕ) (s : Step) → (Extends kind → SoundStep kind size s) → InFound kind size (extended kind s)
extended-in P size s f = tt
extended-in E size s f = f tt

phase-in : (kind : Kind) (size : ℕ) (n : Numbers) → n.place < places_of n.phase n.length → InFound kind size (phase_in kind size n)
unfolding phase_in
phase-in kind size n p =
    let Q = InFound kind size in
    let k = n.phase in
    in-cond Q (eqb k 0) _ _ (λ e. tt) (λ e0.
    in-cond Q (eqb k 1) _ _ (λ e. tt) (λ e1.
    in-cond Q (eqb k 2) _ _ (λ e. tt) (λ e2.
    in-cond Q (eqb k 3) _ _ (λ e. tt) (λ e3.
    in-cond Q (eqb k 4) _ _ (λ e. extended-in kind size (Header TakeExtendedLow) (λ h. h)) (λ e4.
    in-cond Q (eqb k 5) _ _ (λ e. extended-in kind size (Header (TakeExtendedHigh n.held)) (λ h. h)) (λ e5.
    in-cond Q (eqb k 6) _ _ (λ e. sized-in kind size n.length (SendAck n.length) (λ h. h)) (λ e6.
    in-cond Q (eqb k 7) _ _ (λ e. sized-in kind size n.length (TakeCode n.length n.place) (λ h. (rw e at p, h.1))) (λ e7.
    in-cond Q (eqb k 8) _ _ (λ e. sized-in kind size n.length (SendXor n.length) (λ h. h)) (λ e8.
    in-cond Q (eqb k 9) _ _ (λ e. sized-in kind size n.length (TakeAck n.length) (λ h. h)) (λ e9.
    in-cond Q (eqb k 10) _ _ (λ e. tt) (λ e10.
    in-cond Q (eqb k 11) _ _ (λ e. in-cond Q (is_in_ram (record { 0 = n.held }) size) _ _ (λ inside. inside) (λ outside. tt)) (λ e11. tt))))))))))))

step-in : (kind : Kind) (size : ℕ) (n : Numbers) → InFound kind size (step_in kind size n)
unfolding step_in
step-in kind size n =
    in-cond (InFound kind size) (ltb n.place (places_of n.phase n.length)) _ _ (λ e. phase-in kind size n (ltb-true _ _ e)) (λ e. tt)

kind-in : (kind : Kind) (size : ℕ) (f : Option Step) → InFound kind size f → InDecoded size (with_kind kind f)
kind-in kind size (Some step) h = h
kind-in kind size None h = tt

-- a record that is read stands for a sound step
pub decoded-sound : (size : ℕ) (r : Record) (kind : Kind) (s : Step) → decoded_of size r ≡ Some (kind, s) → SoundStep kind size s
unfolding decoded_of
decoded-sound size r kind s e = subst (λ (d : Option (Kind × Step)). InDecoded size d) e (whole (kind_of r.kind))
  where
    n : Numbers
    n = fields r.phase r.length r.place r.held

    whole : (k : Result Kind UnknownKind) → InDecoded size (decoded_with size n k)
    whole (Ok kind) = kind-in kind size (step_in kind size n) (step-in kind size n)
    whole (Err unknown) = tt

sized-back : (size n : ℕ) (s : Step) → Sized size n → sized size n s ≡ Some s
sized-back size n s h = simp (ne_eqb n 0 (λ e. let z : ⊥ = omega (arith, h.0) in z), le-leb _ _ h.1)

extended-back : (kind : Kind) (s : Step) → Extends kind → extended kind s ≡ Some s
extended-back P s h = absurd h
extended-back E s h = refl

-- every sound step is read back from its numbers
header-back : (kind : Kind) (size : ℕ) (s : HeaderStep) → SoundHeader kind s → step_in kind size (header_fields s) ≡ Some (Header s)
unfolding step_in phase_in
header-back kind size TakeSoh h = refl
header-back kind size TakeLow h = refl
header-back kind size (TakeHigh low) h = refl
header-back kind size TakeExtendedLow h = extended-back kind (Header TakeExtendedLow) h
header-back kind size (TakeExtendedHigh low) h = extended-back kind (Header (TakeExtendedHigh low)) h

step_back : (kind : Kind) (size : ℕ) (s : Step) → SoundStep kind size s → step_in kind size (fields_of s) ≡ Some s
unfolding step_in phase_in
step_back kind size SendStx h = refl
step_back kind size (Header s) h = header-back kind size s h
step_back kind size (SendAck n) h = sized-back size n (SendAck n) h
step_back kind size (TakeCode n p) h =
    rw (lt-ltb p n h.0) (sized-back size n (TakeCode n p) (omega (arith, h.0), h.1))
step_back kind size (SendXor n) h = sized-back size n (SendXor n) h
step_back kind size (TakeAck n) h = sized-back size n (TakeAck n) h
step_back kind size SendNak h = refl
step_back kind size (Running address) h = rw h refl

-- and from its record
pub reads_back : (kind : Kind) (size : ℕ) (s : Step) (reason : ℕ) → SoundStep kind size s → decoded_of size (written kind s reason) ≡ Some (kind, s)
unfolding decoded_of written
reads_back P size s reason h = ap (with_kind P) (step_back P size s h)
reads_back E size s reason h = ap (with_kind E) (step_back E size s h)
