-- A session as its caller sees it: a record and memories in, a report, record, reply and memories out (rules, 3.1 to 3.3). A call is
-- refused for its lengths, and then for its record (rules, 2.1).
-- Assumes nothing.
use Rattle.std.specs.Prelude.{ℕ, cond, List, eqb, length, drop}
use Rattle.memory.specs.Store.{laid}
use Rattle.machine.specs.Machine.{Machine}
use Rattle.machine.specs.Call.{standing, call}
use Rattle.machine.specs.declared.Record.{Record}
use Rattle.machine.specs.declared.Report.{Report}

-- the record of a session at its flow's first step, with the number of its kind and no reason yet
abbrev pub start_record : (kind : ℕ) → Record
start_record kind = record { kind = kind; phase = 0; opcode = 0; length = 0; place = 0; held = 0; reason = 0; spare = 0 }

-- what a record says: a state, or it is unsound
pub data Read (S : Type 0) : Type 0 where
  sound : S → Read S
  unsound : Read S

-- a session over input symbols A (bytes, as a rule), memories M and states S
pub record Session (A M S : Type 0) : Type 0 where
  pub machine : Machine A S
  -- the number that the lengths of the memories are refused with, 0 where they are not
  pub refusal : M → ℕ
  -- the state that a record stands for with these memories; a state's record and its memories
  pub read : Record → M → Read S
  pub write : S → Record
  pub memories : S → M

-- what a call gives back, with the lent slices after it
pub record GivenBack (M : Type 0) : Type 0 where
  pub report : Report
  pub reply : List ℕ
  pub memories : M

-- the number that an unsound record is refused with
abbrev pub bad_record : ℕ
bad_record = 4

-- a refused call changes nothing
abbrev pub refused_report : (number : ℕ) → Record → Report
refused_report number session = record { number = number; standing = 0; taken = 0; sent = 0; session = session }

abbrev pub refused : {M : Type 0} → (number : ℕ) → Record → (reply : List ℕ) → M → GivenBack M
refused number session reply mem = record { report = refused_report number session; reply = reply; memories = mem }

module _ {A M S : Type 0} (σ : Session A M S) where
  -- an accepted call at s
  unfoldable pub accepted : S → (input : List A) (reply : List ℕ) → GivenBack M
  accepted s input reply =
      let o = call σ.machine s input (length reply) in
      record {
        report = record {
          number = 0;
          standing = standing σ.machine o.final (drop o.taken input);
          taken = o.taken;
          sent = length o.replies;
          session = σ.write o.final;
        };
        reply = laid o.replies reply;
        memories = σ.memories o.final;
      }

  abbrev pub read_result : Read S → Record → M → (input : List A) (reply : List ℕ) → GivenBack M
  read_result (sound s) session mem input reply = accepted s input reply
  read_result unsound session mem input reply = refused bad_record session reply mem

  -- a call: lengths first, then the record
  unfoldable pub result_of : Record → M → (input : List A) (reply : List ℕ) → GivenBack M
  result_of session mem input reply =
      cond (eqb (σ.refusal mem) 0)
      (read_result (σ.read session mem) session mem input reply)
      (refused (σ.refusal mem) session reply mem)
