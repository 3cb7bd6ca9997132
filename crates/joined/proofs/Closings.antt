-- What the host and the device say to each other in turn closes, alone; and so every schedule keeps to it.
-- Assumes nothing.
use Prim.Native.Nat.{ℕ}
use native.Mathlib.Omega.{arith}
use native.Mathlib.Nat.{add-zero}
use mathlib.Core.Path.{◌≡◌, refl, sym, ap, ◌∙◌}
use mathlib.Core.List.{List, [], ◌++◌, append-nil}
use Rattle.memory.specs.Memories.{Memories}
use Rattle.machine.specs.Outcome.{Outcome, halt, join}
use Rattle.machine.specs.Uncut.{uncut}
use Rattle.machine.specs.Lawful.{Any, Lawful}
use Rattle.machine.specs.Cuts.{Stopped}
use Rattle.machine.proofs.Actions.{uncut-run}
use Rattle.uartboot_flow.specs.declared.step.Step.TheVariants.{Header}
use Rattle.uartboot_flow.specs.declared.step.HeaderStep.TheVariants.{TakeSoh}
use Rattle.uartboot_flow.specs.State as device-state
use Rattle.uartboot_flow.specs.Flow as device-flow
use Rattle.uartboot_flow.specs.Due as device-due
use Rattle.uartboot_flow.specs.Device.{device}
use Rattle.uartboot_flow.specs.Fresh as device-fresh
use Rattle.uartboot_flow.specs.Sound as device-sound
use Rattle.uartboot_flow.proofs.Laws as device-laws
use Rattle.uartboot.specs.Session.{uartboot}
use Rattle.uartboot.proofs.Faith as device-faith
use Rattle.joining.specs.Goes.{Goes}
use Rattle.joining.specs.Talk.{Talk}
use Rattle.joining.specs.Closing.{ClosesAlone}
use Rattle.joining.proofs.Goings.{went, goes_on, goes-sound}
use Rattle.joining.proofs.Talks.{talk-left, talk-right, talk-used, talk-left-is, talk-right-is, talk-closes}
use Rattle.joining.proofs.Beginnings.{stopped-halts}
use Rattle.joining.proofs.Tallies.{goes-plain, talk-plain, run-times}
use Rattle.joining.proofs.Briefs.{does-brief}
use Rattle.joining.proofs.CleanLines.{clean_line}
use Rattle.host_command.specs.Exchange.{Lent}
use Rattle.host_command.specs.Refusal.{refusal_of}
use Rattle.host_flow.specs.declared.step.Step.TheVariants.{Over}
use Rattle.host_flow.specs.State.{State, state}
use Rattle.host_flow.specs.Flow.{does}
use Rattle.host_flow.specs.Due.{due}
use Rattle.host_flow.specs.Host.{host}
use Rattle.host_flow.specs.Fresh.{fresh}
use Rattle.host_flow.specs.Sound.{Sound}
use Rattle.host_flow.proofs.Laws.{lawful}
use Rattle.host.specs.Session.{host_session}
use Rattle.host.proofs.Cuts as host-faith
use Rattle.joined.specs.Traffic.{greeting_bytes}
use Rattle.joined.specs.Accepted.{Fits}
use Rattle.joined.specs.Executions.{is_execution}
use Rattle.joined.specs.Closed.{Closed}
use Rattle.joined.proofs.DeviceRuns.{counting, now, greets}

pub host-law : Lawful host Any Sound
host-law = lawful Any

pub device-law : Lawful device Any device-sound.Sound
device-law = device-laws.lawful Any

-- the host that is over does nothing more
pub over-is : (reason : ℕ) (c : Lent) (x : List ℕ) → uncut host (state Over reason c) x ≡ halt (state Over reason c)
over-is reason c x = uncut-run host host-law (state Over reason c) x refl

-- after the device's greeting they talk, and at the end neither says more; `count` commands are executed
pub record Whole (c : Lent) (m : Memories) (used h left : List ℕ) (host-end : State) (device-end : device-state.State) (count : ℕ) : Type 0 where
  pub said : List ℕ
  pub ended : State
  pub talk : Talk host counting (fresh c) (now 0 (device-state.state (Header TakeSoh) 0 m)) greeting_bytes used h said ended (now count device-end) left
  pub quiet : Sound ended → (x : List ℕ) → uncut host ended (left ++ x) ≡ halt host-end
  pub silent : Stopped device device-end []

pub closed : (c : Lent) (m : Memories) {used h left : List ℕ} {host-end : State} {device-end : device-state.State} {count : ℕ} → refusal_of c ≡ 0 → Fits m →
    Whole c m used h left host-end device-end count → Closed c m h used left host-end device-end count
closed c m {used} {h} {left} {device-end} {count} e fits w =
    let r = used ++ left in
    let gs : Sound (fresh c) = record { accepted = e; step_sound = omega arith } in
    let gt : device-sound.Sound (device-fresh.fresh m) = record { fitting = fits; step_sound = omega arith } in
    let first : Goes device (device-fresh.fresh m) [] greeting_bytes (device-state.state (Header TakeSoh) 0 m) = goes-plain is_execution device (greets 0 0 m) in
    let talk : Talk host device (fresh c) (device-state.state (Header TakeSoh) 0 m) greeting_bytes used h w.said w.ended device-end left =
    talk-plain is_execution device w.talk in
    let run : Goes counting (now 0 (device-fresh.fresh m)) h (greeting_bytes ++ w.said) (now count device-end) =
    goes_on counting (greets 0 0 m) (talk-right host counting w.talk) in
    let ends-sound : Sound w.ended = goes-sound host host-law (talk-left host device talk) gs in
    let device-ends : device-sound.Sound device-end = goes-sound device device-law (goes-plain is_execution device run) gt in
    let silent : uncut device device-end [] ≡ halt device-end = stopped-halts device device-end device-law device-ends w.silent in
    let quiet : (x : List ℕ) → (uncut host w.ended (left ++ x)).replies ≡ [] = λ x. ap (λ (o : Outcome State). o.replies) (w.quiet ends-sound x) in
    let all : greeting_bytes ++ w.said ≡ used ++ left = talk-used host device talk in
    let last : uncut host w.ended left ≡ halt _ = ap (uncut host w.ended) (sym (append-nil left)) ∙ w.quiet ends-sound [] in
    let closes : ClosesAlone host device (fresh c) (device-fresh.fresh m) h (used ++ left) =
    rw (← all) (talk-closes host device host-law device-law first talk gs gt quiet silent) in
    record {
      host_is = ap (uncut host (fresh c)) (sym all) ∙ talk-left-is host device host-law device-law first talk gs gt quiet silent
          ∙ ap (join (went used h w.ended)) last ∙ simp (append-nil, add-zero);
      device_is = talk-right-is host device host-law device-law first talk gs gt quiet silent
          ∙ ap (λ (l : List ℕ). went h l device-end) all;
      executions = run-times is_execution device device-law gt run w.silent;
      line = clean_line host_session uartboot host-faith.faithful device-faith.faithful host-law device-law (does-brief does due) (does-brief device-flow.does device-due.due)
          (fresh c) gs (device-fresh.fresh m) gt h r closes;
    }
