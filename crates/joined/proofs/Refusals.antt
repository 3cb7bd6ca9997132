-- The host's definition and the device's close on each other too where the session refuses the command.
-- Assumes nothing.
use Rattle.std.specs.Prelude.{Option, Some, None}
use Prim.Native.Nat.{ℕ, ◌+◌, ◌≤◌, ◌<◌}
use native.Mathlib.Omega.{arith}
use mathlib.Core.Path.{◌≡◌, refl, ap, ◌∙◌}
use mathlib.Core.Bool.{true, not, false≢true}
use mathlib.Core.List.{List, [], ◌∷◌, ◌++◌, append-nil}
use lib.Dec.{eqb, ltb}
use lib.ListN.{length}
use borrow.Author.Tests.{le-leb, le-ltb}
use Rattle.wire.specs.Line.{nak}
use Rattle.wire.specs.Range.{lies_in}
use Rattle.wire.specs.Unit.{ram_base, ram_place, flash_place}
use Rattle.wire.proofs.Lengths.{work-bounds}
use Rattle.wire.proofs.Tests.{in-cond}
use Rattle.memory.specs.Memories.{Memories}
use Rattle.machine.specs.Cuts.{waits}
use Rattle.opcodes.specs.declared.Opcode.{Opcode}
use Rattle.opcodes.specs.declared.Opcode.TheVariants.{Write, Read, Copy, Erase, Run, ReadQspi, Version, ChipErase, DirectWrite}
use Rattle.opcodes.specs.Opcode.{opcode_number, has_length}
use Rattle.command.specs.declared.check.Checks.{Checks}
use Rattle.command.specs.Check.{wrong_end, judged}
use Rattle.command_execution.specs.declared.Ending.{Ending}
use Rattle.command_execution.specs.declared.Ending.TheVariants as ending
use Rattle.command_execution.specs.Execution.{verify_differs}
use Rattle.joining.specs.Talk.{over, round, hears}
use Rattle.joining.proofs.Goings.{goes_on}
use Rattle.uartboot_flow.specs.Flow.{long_payload}
use Rattle.host_command.specs.declared.Follows.{Follows}
use Rattle.host_command.specs.declared.Follows.TheVariants.{Greets}
use Rattle.host_command.specs.Exchange.{Lent, lent}
use Rattle.host_flow.specs.declared.step.Step.TheVariants.{Over}
use Rattle.host_flow.specs.State.{state}
use Rattle.host_flow.specs.Flow.{device_refused}
use Rattle.joined.specs.Traffic.{greeting_bytes, header_bytes}
use Rattle.joined.specs.Accepted.{against, effect, Fits}
use Rattle.joined.specs.Refused.{HeaderRefused, payload_reasons, is_among, PayloadRefused, Differs, NotVerified}
use Rattle.joined.proofs.HostRuns as hosts
use Rattle.joined.proofs.DeviceRuns.{counting}
use Rattle.joined.proofs.DeviceRuns as devices
use Rattle.joined.proofs.Effects.{Ends, answering, running, silently, Ended, ends, differs, ended}
use Rattle.joined.proofs.Closings.{over-is, closed}
use Rattle.joined.proofs.Lines.{Known, known, failing, talk-as, whole}

pub header_refused : HeaderRefused
header_refused opcode payload answer m e fits long =
    let c = lent (opcode_number opcode) payload answer in
    let k = known opcode payload answer e in
    closed c m e fits (record {
      said = _;
      ended = state Over device_refused c;
      talk =
          round (hosts.at-header c) (goes_on counting (devices.heads-long opcode m (length payload) k.small k.has_length long) (devices.refuses 0 long_payload m))
          (hears {front = nak ∷ []} {waiting = greeting_bytes} (hosts.header_refused c) over);
      quiet = λ g x. over-is device_refused c (greeting_bytes ++ x);
      silent = waits refl;
    })

-- a command without payload passes its checks
nothing-asked : (ram flash work answer : ℕ) → answer ≤ work → judged ram flash work (record { verify = 0; count = 1; address = record { 0 = ram_base }; ram = 0; offset = record { 0 = 0 }; flash = 0; answer = answer }) ≡ 0
unfolding judged lies_in
nothing-asked ram flash work answer h =
    let in-ram : ram_base ≤ ram_base + ram = omega arith in
    let in-flash : 0 ≤ 0 + flash = omega arith in
    rw (le-leb ram_base (ram_base + ram) in-ram, le-leb 0 (0 + flash) in-flash, le-ltb work answer h) refl

bare-passes : (opcode : Opcode) (m : Memories) → has_length opcode 0 ≡ true → Fits m → against opcode [] m ≡ 0
bare-passes Write m h fits = absurd (false≢true h)
bare-passes Read m h fits = absurd (false≢true h)
bare-passes Copy m h fits = absurd (false≢true h)
bare-passes Erase m h fits = absurd (false≢true h)
bare-passes Run m h fits = absurd (false≢true h)
bare-passes ReadQspi m h fits = absurd (false≢true h)
bare-passes Version m h fits = nothing-asked _ _ _ 7 (omega (arith, (work-bounds (length m.work) fits.work_length).0))
bare-passes ChipErase m h fits = nothing-asked _ _ _ 0 (omega arith)
bare-passes DirectWrite m h fits = absurd (false≢true h)

-- a reason against a payload is one of these
abbrev Reason : ℕ → Type 0
Reason n = (n ≡ 0 → ⊥) → is_among payload_reasons n ≡ true

end-reason : (first : Option ℕ) → Reason (wrong_end first)
end-reason None z = refl
end-reason (Some place) z = refl

reasons : (ram flash work : ℕ) (c : Checks) → Reason (judged ram flash work c)
unfolding judged
reasons ram flash work c =
    in-cond Reason (ltb 1 c.verify) _ _ (λ t z. refl) (λ t.
    in-cond Reason (eqb c.count 0) _ _ (λ t z. refl) (λ t.
    in-cond Reason (not (lies_in c.address.0 c.ram ram_base ram)) _ _ (λ t. end-reason (ram_place c.address 1 ram)) (λ t.
    in-cond Reason (not (lies_in c.offset.0 c.flash 0 flash)) _ _ (λ t. end-reason (flash_place c.offset 1 flash)) (λ t.
    in-cond Reason (ltb work c.answer) _ _ (λ t z. refl) (λ t z. absurd (z refl))))))

pub payload_refused : PayloadRefused
payload_refused opcode [] answer m e fits short fails = absurd (fails (bare-passes opcode m (known opcode [] answer e).has_length fits))
payload_refused opcode (b ∷ bs) answer m e fits short fails =
    let payload = b ∷ bs in
    let c = lent (opcode_number opcode) payload answer in
    let k = known opcode payload answer e in
    let some : 0 < length payload = omega arith in
    let talk =
    round (hosts.at-header c)
    (goes_on counting (devices.heads-on opcode m (length payload) k.small k.has_length short) (devices.at_first opcode m (length payload) some))
    (round (hosts.at-payload c some) (devices.at-payload-refused opcode m payload some short fails)
    (hears {front = nak ∷ []} {waiting = greeting_bytes} (hosts.payload_refused c) over)) in
    record {
      closed = closed c m e fits (record {
        said = _;
        ended = state Over device_refused c;
        talk = talk-as (ap (λ (l : List ℕ). header_bytes opcode payload ++ l) (append-nil payload)) talk;
        quiet = λ g x. over-is device_refused c (greeting_bytes ++ x);
        silent = waits refl;
      });
      reason_is = reasons _ _ _ _ fails;
    }

pub never-fails : {payload : List ℕ} {f : Follows} {e : Ending} {after : Memories} (why : ℕ) → Ends payload f e after → e ≡ ending.Failed why → ⊥
never-fails why (answering some room small) e = let z : ◌≡◌ {A = ℕ} 0 1 = cc in omega arith
never-fails why running e = let z : ◌≡◌ {A = ℕ} 0 1 = cc in omega arith
never-fails why silently e = let z : ◌≡◌ {A = ℕ} 0 1 = cc in omega arith

pub not-verified : NotVerified
not-verified opcode payload answer m e ok is = go (ended opcode payload m ok)
  where
    c : Lent
    c = lent (opcode_number opcode) payload answer

    k : Known opcode payload answer
    k = known opcode payload answer e

    go : Ended opcode payload m (effect opcode payload m) → Differs opcode payload answer m
    go (ends x) = absurd (never-fails verify_differs x is)
    go (differs d) =
        record {
          direct_write = d.direct_write;
          closed = closed c m e ok.fitting (whole opcode answer m payload k ok Greets (k.follows_is ∙ rw d.direct_write refl) (failing opcode c verify_differs (effect opcode payload m) is));
          store_stays = d.store_stays;
          same_ram = d.same_ram;
          same_work = d.same_work;
        }
