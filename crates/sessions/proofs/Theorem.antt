-- Demand 3 holds, for all kinds.
-- Assumes nothing.
use Prim.Native.Nat.{ℕ}
use mathlib.Core.List.{List}
use Rattle.wire.specs.Bytes.{Byte}
use Rattle.machine.specs.History.{Event}
use Rattle.machine.specs.Lawful.{Any, Lawful}
use Rattle.machine.specs.Reach.{Reach}
use Rattle.machine.specs.SessionLaws.{OneByOne, Faithful}
use Rattle.machine.proofs.Sessions.{takes_all, definition_ends, session-claim, made-claim}
use Rattle.rom_flow.specs.declared.kind.Kind.TheVariants.{P, E}
use Rattle.rom_flow.proofs.Laws as receiver
use Rattle.uartboot_flow.proofs.Laws as device
use Rattle.rom.proofs.Reached as rom-reached
use Rattle.rom.proofs.Faith as rom
use Rattle.uartboot.proofs.Reached as device-reached
use Rattle.uartboot.proofs.Faith as device-faith
use Rattle.sessions.specs.Kind.{Kind, rom_p, rom_e, uartboot, StateOf, session_of, SameOf, fresh_of, fresh_record_of}
use Rattle.sessions.specs.Demand3.{Told, Demand3}

-- what a session keeps to, whatever symbols it is fed, and that its invariant tells what is to be told
pub record Follows (kind : Kind) : Type 1 where
  pub Sound : StateOf kind → Type 0
  pub Invariant : List (Event ℕ (StateOf kind)) → StateOf kind → Type 0
  pub one : OneByOne (session_of kind).machine
  pub law : Faithful (session_of kind) Byte (fresh_of kind) Sound Invariant
  pub free : Lawful (session_of kind).machine Any Sound
  pub tells : (events : List (Event ℕ (StateOf kind))) (s : StateOf kind) → Invariant events s → Told kind events s

pub follows : (kind : Kind) → Follows kind
follows rom_p = record { Sound = _; Invariant = _; one = rom.one_by_one; law = rom.faithful P; free = receiver.lawful Any; tells = λ events s h. (h, tt) }
follows rom_e = record { Sound = _; Invariant = _; one = rom.one_by_one; law = rom.faithful E; free = receiver.lawful Any; tells = λ events s h. (h, tt) }
follows uartboot = record { Sound = _; Invariant = _; one = device-faith.one_by_one; law = device-faith.faithful; free = device.lawful Any; tells = device-faith.tells }

pub reaches : (kind : Kind) → Reach (session_of kind) (SameOf kind) (fresh_of kind) (fresh_record_of kind)
reaches rom_p = rom-reached.records-reached P
reaches rom_e = rom-reached.records-reached E
reaches uartboot = device-reached.records-reached

pub demand-3 : Demand3
demand-3 kind =
    let f = follows kind in
    record {
      reach = reaches kind;
      definition_ends = definition_ends (session_of kind) f.law f.tells f.one;
      defined = session-claim (session_of kind) f.law f.tells;
      made = made-claim (session_of kind) f.law f.tells;
      takes_all = takes_all (session_of kind) f.law.lawful f.one;
    }
