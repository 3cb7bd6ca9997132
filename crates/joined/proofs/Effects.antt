-- How a command that passes its checks ends: as the host awaits, or with flash that differs.
-- Assumes nothing.
use Prim.Native.Nat.{ℕ, ◌+◌, ◌-◌, ◌≤◌, ◌<◌}
use native.Mathlib.Omega.{arith}
use mathlib.Core.Path.{◌≡◌, refl, sym, ap, ◌∙◌}
use mathlib.Core.Bool.{Bool, true, false, cond, not, ◌||◌}
use mathlib.Core.List.{List}
use lib.Dec.{eqb}
use lib.ListN.{length, take, drop, get_or, length-drop}
use lib.Seq.{drop-append-le, take-append-le, take_at}
use borrow.Author.Tests.{eqb-true, ltb-true}
use Rattle.wire.proofs.Lengths.{work-bounds}
use Rattle.numbers.specs.Number.{number_at}
use Rattle.memory.specs.Store.{laid, part_of, changed_from}
use Rattle.memory.specs.Flash.{burnt}
use Rattle.memory.specs.Compare.{is_front}
use Rattle.memory.specs.Memories.{Memories}
use Rattle.memory.proofs.Stores.{laid-length, part_length}
use Rattle.opcodes.specs.declared.Opcode.{Opcode}
use Rattle.opcodes.specs.declared.Opcode.TheVariants.{Write, Read, Copy, Erase, Run, ReadQspi, Version, ChipErase, DirectWrite}
use Rattle.opcodes.specs.Opcode.{data_place}
use Rattle.command.specs.Payload.{command_of, address_at, offset_at}
use Rattle.command.specs.Version.{version}
use Rattle.command.specs.Check.{checks_of}
use Rattle.command_execution.specs.declared.Ending.{Ending}
use Rattle.command_execution.specs.declared.Ending.TheVariants as ending
use Rattle.command_execution.specs.Execution.{Executed, verify_differs, place_of, performed, Answering}
use Rattle.command_execution.proofs.Checks.{Passed, allowed}
use Rattle.command_execution.proofs.Executions.{Kept, performs, executed-keeps}
use Rattle.host_command.specs.declared.Follows.{Follows}
use Rattle.host_command.specs.declared.Follows.TheVariants.{Answers, Runs, Greets}
use Rattle.host_command.specs.Exchange.{follows_command, awaited_of}
use Rattle.joined.specs.Accepted.{brought, effect, answer_bytes, Fits, Passes}

-- an ending that fits what the host awaits
pub data Ends (payload : List ℕ) : Follows → Ending → Memories → Type 0 where
  answering : {size : ℕ} {after : Memories} → 0 < size → size ≤ length after.work → length after.work < 65536 → Ends payload (Answers size) (ending.Answers size) after
  running : {after : Memories} → Ends payload Runs (ending.Runs (address_at 0 payload)) after
  silently : {after : Memories} → Ends payload Greets ending.Silent after

-- flash differs after the store
pub record Differing (opcode : Opcode) (payload : List ℕ) (m : Memories) (e : Executed) : Type 0 where
  pub fails : e.ending ≡ ending.Failed verify_differs
  pub direct_write : opcode ≡ DirectWrite
  pub store_stays : e.after.flash ≡ changed_from (offset_at 1 payload).0 (burnt (drop (data_place DirectWrite) payload)) m.flash
  pub same_ram : e.after.ram ≡ m.ram
  pub same_work : e.after.work ≡ laid payload m.work

pub data Ended (opcode : Opcode) (payload : List ℕ) (m : Memories) (e : Executed) : Type 0 where
  ends : Ends payload (follows_command opcode payload) e.ending e.after → Ended opcode payload m e
  differs : Differing opcode payload m e → Ended opcode payload m e

-- a number in the payload is in the work buffer, and so are its data
number-brought : (width place : ℕ) (payload work : List ℕ) → place + width ≤ length payload → number_at width (laid payload work) place ≡ number_at width payload place
unfolding number_at
number-brought width place payload work h =
    let front : place ≤ length payload = omega arith in
    let rest : width ≤ length (drop place payload) = rw (length-drop place payload) (omega arith) in
    rw (drop-append-le place payload (drop (length payload) work) front, take-append-le width (drop place payload) (drop (length payload) work) rest) refl

data-brought : (place : ℕ) (payload work : List ℕ) → place ≤ length payload → part_of place (length payload - place) (laid payload work) ≡ drop place payload
data-brought place payload work h =
    rw (drop-append-le place payload (drop (length payload) work) h, take_at (drop place payload) (drop (length payload) work) (length payload - place) (length-drop place payload)) refl

module _ (opcode : Opcode) (payload : List ℕ) (m : Memories) (ok : Passes opcode payload m) where
  abbrev m' : Memories
  m' = brought payload m

  fit : Fits m'
  fit = rw (laid-length payload m.work ok.in_work) ok.fitting

  kept : Kept opcode m' (effect opcode payload m)
  kept = executed-keeps opcode (length payload) m' fit

  passed : Passed (length m'.ram) (length m'.flash) (length m'.work) (checks_of (command_of opcode (length payload) m'.work))
  passed = allowed _ _ _ _ ok.passes

  done : performed (command_of opcode (length payload) m'.work) m' ≡ effect opcode payload m
  done = sym (performs opcode (length payload) m' ok.passes)

  end_is : (performed (command_of opcode (length payload) m'.work) m').ending ≡ (effect opcode payload m).ending
  end_is = ap (λ (e : Executed). e.ending) done

  short : length m.work < 65536
  short = omega (arith, (work-bounds (length m.work) ok.fitting.work_length).1)

  answers-end : (n : ℕ) → (effect opcode payload m).ending ≡ ending.Answers n → follows_command opcode payload ≡ Answers n →
      Ended opcode payload m (effect opcode payload m)
  answers-end n e f =
      let fine : Answering opcode n (length m'.work) = rw e at kept.fine in
      let same : length (effect opcode payload m).after.work ≡ length m.work = kept.lengths.same_work ∙ laid-length payload m.work ok.in_work in
      let room : n ≤ length (effect opcode payload m).after.work = omega (arith, fine.in_work, kept.lengths.same_work) in
      let small : length (effect opcode payload m).after.work < 65536 = omega (arith, same, short) in
      ends (rw (e, f) (answering fine.some room small))

  silent-end : (effect opcode payload m).ending ≡ ending.Silent → follows_command opcode payload ≡ Greets → Ended opcode payload m (effect opcode payload m)
  silent-end e f = ends (rw (e, f) silently)

pub ended : (opcode : Opcode) (payload : List ℕ) (m : Memories) → Passes opcode payload m → Ended opcode payload m (effect opcode payload m)
ended Write payload m ok = silent-end Write payload m ok (sym (end_is Write payload m ok)) refl
ended Read payload m ok =
    let k : number_at 2 (laid payload m.work) 4 ≡ number_at 2 payload 4 = number-brought 2 4 payload m.work (omega (arith, eqb-true (length payload) 6 ok.has_length)) in
    let place = place_of (address_at 0 (laid payload m.work)) in
    let count = part_length place (number_at 2 (laid payload m.work) 4) m.ram (passed Read payload m ok).in-ram in
    answers-end Read payload m ok (number_at 2 payload 4) (sym (end_is Read payload m ok) ∙ ap ending.Answers (count ∙ k)) refl
ended Copy payload m ok = silent-end Copy payload m ok (sym (end_is Copy payload m ok)) refl
ended Erase payload m ok = silent-end Erase payload m ok (sym (end_is Erase payload m ok)) refl
ended Run payload m ok =
    let k : number_at 4 (laid payload m.work) 0 ≡ number_at 4 payload 0 = number-brought 4 0 payload m.work (omega (arith, eqb-true (length payload) 4 ok.has_length)) in
    ends (rw (sym (end_is Run payload m ok) ∙ ap (λ (n : ℕ). ending.Runs (record { 0 = n })) k) running)
ended ReadQspi payload m ok =
    let k : number_at 2 (laid payload m.work) 4 ≡ number_at 2 payload 4 = number-brought 2 4 payload m.work (omega (arith, eqb-true (length payload) 6 ok.has_length)) in
    let place = (offset_at 0 (laid payload m.work)).0 in
    let count = part_length place (number_at 2 (laid payload m.work) 4) m.flash (passed ReadQspi payload m ok).in-flash in
    answers-end ReadQspi payload m ok (number_at 2 payload 4) (sym (end_is ReadQspi payload m ok) ∙ ap ending.Answers (count ∙ k)) refl
ended Version payload m ok = answers-end Version payload m ok 7 (sym (end_is Version payload m ok)) refl
ended ChipErase payload m ok = silent-end ChipErase payload m ok (sym (end_is ChipErase payload m ok)) refl
ended DirectWrite payload m ok = go holds refl
  where
    work : List ℕ
    work = laid payload m.work

    bytes : List ℕ
    bytes = part_of (data_place DirectWrite) (length payload - data_place DirectWrite) work

    offset : ℕ
    offset = (offset_at 1 work).0

    holds : Bool
    holds = not (eqb (get_or work 0 0) 1) || is_front bytes (drop offset (changed_from offset (burnt bytes) m.flash))

    stored : changed_from offset (burnt bytes) m.flash ≡ changed_from (offset_at 1 payload).0 (burnt (drop (data_place DirectWrite) payload)) m.flash
    stored =
        let long : 5 < length payload = ltb-true 5 (length payload) ok.has_length in
        rw (number-brought 4 1 payload m.work (omega arith), data-brought (data_place DirectWrite) payload m.work (omega arith)) refl

    go : (b : Bool) → holds ≡ b → Ended DirectWrite payload m (effect DirectWrite payload m)
    go true t = silent-end DirectWrite payload m ok (sym (end_is DirectWrite payload m ok) ∙ ap (λ (b : Bool). cond b ending.Silent (ending.Failed verify_differs)) t) refl
    go false t =
        differs (record {
          fails = sym (end_is DirectWrite payload m ok) ∙ ap (λ (b : Bool). cond b ending.Silent (ending.Failed verify_differs)) t;
          direct_write = refl;
          store_stays = ap (λ (e : Executed). e.after.flash) (sym (done DirectWrite payload m ok)) ∙ stored;
          same_ram = ap (λ (e : Executed). e.after.ram) (sym (done DirectWrite payload m ok));
          same_work = ap (λ (e : Executed). e.after.work) (sym (done DirectWrite payload m ok));
        })

-- the answer is at the front of the work buffer
pub answer-is : (opcode : Opcode) (payload : List ℕ) (m : Memories) → Passes opcode payload m →
    take (awaited_of (follows_command opcode payload)) (effect opcode payload m).after.work ≡ answer_bytes opcode payload m
answer-is Write payload m ok = refl
answer-is Read payload m ok =
    let long : length payload ≡ 6 = eqb-true (length payload) 6 ok.has_length in
    let k : number_at 2 (laid payload m.work) 4 ≡ number_at 2 payload 4 = number-brought 2 4 payload m.work (omega arith) in
    let from : number_at 4 (laid payload m.work) 0 ≡ number_at 4 payload 0 = number-brought 4 0 payload m.work (omega arith) in
    let bytes = part_of (place_of (address_at 0 (laid payload m.work))) (number_at 2 (laid payload m.work) 4) m.ram in
    let count : length bytes ≡ number_at 2 payload 4 =
    part_length (place_of (address_at 0 (laid payload m.work))) (number_at 2 (laid payload m.work) 4) m.ram (passed Read payload m ok).in-ram ∙ k in
    ap (λ (e : Executed). take (number_at 2 payload 4) e.after.work) (sym (done Read payload m ok))
    ∙ take_at bytes (drop (length bytes) (laid payload m.work)) (number_at 2 payload 4) count ∙ rw (k, from) refl
answer-is Copy payload m ok = refl
answer-is Erase payload m ok = refl
answer-is Run payload m ok = refl
answer-is ReadQspi payload m ok =
    let long : length payload ≡ 6 = eqb-true (length payload) 6 ok.has_length in
    let k : number_at 2 (laid payload m.work) 4 ≡ number_at 2 payload 4 = number-brought 2 4 payload m.work (omega arith) in
    let from : number_at 4 (laid payload m.work) 0 ≡ number_at 4 payload 0 = number-brought 4 0 payload m.work (omega arith) in
    let bytes = part_of (offset_at 0 (laid payload m.work)).0 (number_at 2 (laid payload m.work) 4) m.flash in
    let count : length bytes ≡ number_at 2 payload 4 =
    part_length (offset_at 0 (laid payload m.work)).0 (number_at 2 (laid payload m.work) 4) m.flash (passed ReadQspi payload m ok).in-flash ∙ k in
    ap (λ (e : Executed). take (number_at 2 payload 4) e.after.work) (sym (done ReadQspi payload m ok))
    ∙ take_at bytes (drop (length bytes) (laid payload m.work)) (number_at 2 payload 4) count ∙ rw (k, from) refl
answer-is Version payload m ok =
    ap (λ (e : Executed). take 7 e.after.work) (sym (done Version payload m ok)) ∙ take_at version (drop 7 (laid payload m.work)) 7 refl
answer-is ChipErase payload m ok = refl
answer-is DirectWrite payload m ok = refl
