-- Laws of execution: what is done where the checks pass and where one fails, what stays, and which opcodes make code run.
-- Assumes nothing.
use Prim.Native.Nat.{ℕ, suc, ◌-◌, ◌<◌, ◌≤◌}
use mathlib.Core.Path.{◌≡◌, refl, sym, ap, ◌∙◌}
use mathlib.Core.List.{List}
use mathlib.Core.Bool.{true, false, ◌||◌, not}
use native.Mathlib.Omega.{arith}
use lib.Dec.{eqb}
use lib.ListN.{length, drop, get_or, length-take, length-drop, length-replicate}
use borrow.Author.Tests.{eqb-true, ne_eqb}
use Rattle.wire.specs.Range.{lies_in}
use Rattle.wire.specs.Unit.{ram_base}
use Rattle.wire.proofs.Tests.{in-cond}
use Rattle.memory.specs.Store.{laid, changed_from, part_of}
use Rattle.memory.specs.Flash.{burnt, Area}
use Rattle.memory.specs.Compare.{is_front}
use Rattle.memory.proofs.Stores.{changed-length, laid-length, part_length}
use Rattle.memory.proofs.Flashes.{burnt-length, erased-length}
use Rattle.opcodes.specs.declared.Opcode.{Opcode}
use Rattle.opcodes.specs.declared.Opcode.TheVariants.{Write, Read, Copy, Erase, Run, ReadQspi, Version, ChipErase, DirectWrite}
use Rattle.command.specs.declared.payload.Command.{Command}
use Rattle.command.specs.declared.payload.Command.TheVariants as command
use Rattle.opcodes.specs.Opcode.{has_answer, data_place, is_run}
use Rattle.command.specs.Payload.{offset_at, command_of}
use Rattle.command.specs.Version.{version}
use Rattle.command.specs.declared.fault.Fault.{Fault}
use Rattle.command.specs.declared.fault.Fault.TheVariants.{BadVerify, EmptyRange, OutsideMemory, PastEnd, LongAnswer}
use Rattle.command.specs.Check.{checks_of, fault_number}
use Rattle.command_execution.specs.declared.Ending.{Ending}
use Rattle.command_execution.specs.declared.Ending.TheVariants.{Silent, Answers, Runs, Failed}
use Rattle.memory.specs.Memories.{Memories, Fitting, SameLengths}
use Rattle.command_execution.specs.Execution.{Executed, ended, is_running, is_answering, checked, executed, performed, Answering}
use Rattle.command_execution.specs.Execution.{place_of, answered, direct_written, verify_differs}
use Rattle.command_execution.proofs.Checks.{Passed, allowed}

some-number : (fault : Fault) → fault_number fault ≡ 0 → ⊥
some-number BadVerify e = omega arith
some-number EmptyRange e = omega arith
some-number OutsideMemory e = omega arith
some-number PastEnd e = omega arith
some-number LongAnswer e = omega arith

-- nothing is against the command that a payload says, or a reason is
module _ (opcode : Opcode) (count : ℕ) (m : Memories) where
  pub performs : checked (command_of opcode count m.work) m ≡ 0 → executed opcode count m ≡ performed (command_of opcode count m.work) m
  unfolding executed
  performs e = rw e refl

  refuses : (reason : ℕ) → checked (command_of opcode count m.work) m ≡ reason → (reason ≡ 0 → ⊥) → executed opcode count m ≡ ended (Failed reason) m
  unfolding executed
  refuses reason e h = rw (e, ne_eqb reason 0 h) refl

  pub failed-changes-nothing : (k : ℕ) → checked (command_of opcode count m.work) m ≡ suc k → executed opcode count m ≡ ended (Failed (suc k)) m
  failed-changes-nothing k e = refuses (suc k) e (λ z. omega arith)

  pub refused-for : (fault : Fault) → fault_number fault ≡ checked (command_of opcode count m.work) m
      → executed opcode count m ≡ ended (Failed (fault_number fault)) m
  refused-for fault e = refuses (fault_number fault) (sym e) (some-number fault)

pub ruleset executions = (performs, refused-for)

-- what holds of a command that is done, and of one that fails, holds of its execution
pub in-executed : (Q : Executed → Type 0) (opcode : Opcode) (count : ℕ) (m : Memories)
    → (checked (command_of opcode count m.work) m ≡ 0 → Q (performed (command_of opcode count m.work) m))
    → ((reason : ℕ) → Q (ended (Failed reason) m)) → Q (executed opcode count m)
unfolding executed
in-executed Q opcode count m done failed =
    let reason = checked (command_of opcode count m.work) m in
    in-cond Q (eqb reason 0) (performed (command_of opcode count m.work) m) (ended (Failed reason) m)
    (λ t. done (eqb-true reason 0 t))
    (λ t. failed reason)

-- a Direct write ends in one of two ways
in-written : (Q : Ending → Type 0) (verify offset : ℕ) (bytes : List ℕ) (m : Memories) → Q Silent → Q (Failed verify_differs)
    → Q (direct_written verify offset bytes m).ending
in-written Q verify offset bytes m silent failed =
    in-cond Q (not (eqb verify 1) || is_front bytes (drop offset (changed_from offset (burnt bytes) m.flash))) Silent (Failed verify_differs)
    (λ t. silent)
    (λ t. failed)

-- by Run alone code runs, and only the opcodes that have an answer give one
performed-ends : (opcode : Opcode) (count : ℕ) (m : Memories)
    → let ending = (performed (command_of opcode count m.work) m).ending in
    (is_running ending ≡ is_run opcode) × (is_answering ending ≡ has_answer opcode)
performed-ends Write count m = (refl, refl)
performed-ends Read count m = (refl, refl)
performed-ends Copy count m = (refl, refl)
performed-ends Erase count m = (refl, refl)
performed-ends Run count m = (refl, refl)
performed-ends ReadQspi count m = (refl, refl)
performed-ends Version count m = (refl, refl)
performed-ends ChipErase count m = (refl, refl)
performed-ends DirectWrite count m =
    in-written (λ (x : Ending). (is_running x ≡ false) × (is_answering x ≡ false)) (get_or m.work 0 0) (offset_at 1 m.work).0
    (part_of (data_place DirectWrite) (count - data_place DirectWrite) m.work) m (refl, refl) (refl, refl)

-- a command that passes its checks makes code run exactly if it is Run
pub run-starts : (opcode : Opcode) (count : ℕ) (m : Memories) → checked (command_of opcode count m.work) m ≡ 0
    → is_running (executed opcode count m).ending ≡ is_run opcode
run-starts opcode count m e =
    ap (λ (x : Executed). is_running x.ending) (performs opcode count m e) ∙ (performed-ends opcode count m).0

pub others-never-run : (opcode : Opcode) (count : ℕ) (m : Memories) → is_run opcode ≡ false → is_running (executed opcode count m).ending ≡ false
others-never-run opcode count m other =
    in-executed (λ (x : Executed). is_running x.ending ≡ false) opcode count m (λ e. (performed-ends opcode count m).0 ∙ other) (λ reason. refl)

-- an ending that a session can go on with
abbrev pub Fine : Opcode → (ram work : ℕ) → Ending → Type 0
Fine opcode ram work Silent = Unit {0}
Fine opcode ram work (Answers n) = Answering opcode n work
Fine opcode ram work (Runs address) = lies_in address.0 1 ram_base ram ≡ true
Fine opcode ram work (Failed reason) = Unit {0}

-- the memories keep their lengths, and the ending is fine
pub record Kept (opcode : Opcode) (m : Memories) (x : Executed) : Type 0 where
  pub lengths : SameLengths x.after m
  pub fine : Fine opcode (length m.ram) (length m.work) x.ending

module _ (opcode : Opcode) (m : Memories) where
  answered-keeps : (bytes : List ℕ) (count : ℕ) → length bytes ≡ count → true ≡ has_answer opcode → 0 < count → count ≤ length m.work
      → Kept opcode m (answered bytes m)
  answered-keeps bytes count e has some fits =
      let in_work : length bytes ≤ length m.work = omega arith in
      record {
        lengths = record { same_ram = refl; same_flash = refl; same_work = laid-length bytes m.work in_work };
        fine = record { has_answer = sym has; some = omega arith; in_work = in_work };
      }

  burnt-keeps : (offset : ℕ) (bytes : List ℕ) → length (changed_from offset (burnt bytes) m.flash) ≡ length m.flash
  burnt-keeps offset bytes = changed-length m.flash offset (burnt bytes) (burnt-length bytes (drop offset m.flash))

  performed-keeps : (command : Command) → Fitting (length m.ram) (length m.flash) (length m.work)
      → Passed (length m.ram) (length m.flash) (length m.work) (checks_of command)
      → is_answering (performed command m).ending ≡ has_answer opcode → Kept opcode m (performed command m)
  performed-keeps (command.Write address n) fit p has =
      let place = place_of address in
      let bytes = part_of (data_place Write) n m.work in
      let fits : length bytes ≤ length (drop place m.ram) = simp (length-take, length-drop) (omega arith) in
      record {
        lengths = record { same_ram = changed-length m.ram place (laid bytes) (laid-length bytes (drop place m.ram) fits); same_flash = refl; same_work = refl };
        fine = tt;
      }
  performed-keeps (command.Read address n) fit p has =
      answered-keeps (part_of (place_of address) n m.ram) n (part_length (place_of address) n m.ram p.in-ram) has p.some p.answer-fits
  performed-keeps (command.Copy address n offset) fit p has =
      let bytes = part_of (place_of address) n m.ram in
      record { lengths = record { same_ram = refl; same_flash = burnt-keeps offset.0 bytes; same_work = refl }; fine = tt }
  performed-keeps (command.Erase offset n) fit p has =
      let area : Area offset.0 n (length m.flash) = record { some = p.some; inside = p.in-flash; flash_length = fit.flash_length } in
      record { lengths = record { same_ram = refl; same_flash = erased-length offset.0 n m.flash area; same_work = refl }; fine = tt }
  performed-keeps (command.Run address) fit p has =
      record {
        lengths = record { same_ram = refl; same_flash = refl; same_work = refl };
        fine = p.lies-in-ram;
      }
  performed-keeps (command.ReadQspi offset n) fit p has =
      answered-keeps (part_of offset.0 n m.flash) n (part_length offset.0 n m.flash p.in-flash) has p.some p.answer-fits
  performed-keeps command.Version fit p has = answered-keeps version (length version) refl has (omega arith) p.answer-fits
  performed-keeps command.ChipErase fit p has =
      record { lengths = record { same_ram = refl; same_flash = length-replicate (length m.flash) 0xFF; same_work = refl }; fine = tt }
  performed-keeps (command.DirectWrite verify offset n) fit p has =
      let bytes = part_of (data_place DirectWrite) n m.work in
      record {
        lengths = record { same_ram = refl; same_flash = burnt-keeps offset.0 bytes; same_work = refl };
        fine = in-written (Fine opcode (length m.ram) (length m.work)) verify offset.0 bytes m tt tt;
      }

pub executed-keeps : (opcode : Opcode) (count : ℕ) (m : Memories) → Fitting (length m.ram) (length m.flash) (length m.work)
    → Kept opcode m (executed opcode count m)
executed-keeps opcode count m fit =
    let command = command_of opcode count m.work in
    in-executed (Kept opcode m) opcode count m
    (λ e. performed-keeps opcode m command fit (allowed _ _ _ (checks_of command) e) (performed-ends opcode count m).1)
    (λ reason. record { lengths = record { same_ram = refl; same_flash = refl; same_work = refl }; fine = tt })
