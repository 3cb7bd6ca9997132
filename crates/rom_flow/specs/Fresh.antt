-- A fresh receiver (rules, 3.1): it starts at the flow's first step with last reason 0.
-- Assumes nothing.
use Rattle.std.specs.Prelude.{ℕ, List, cond, eqb, Result, Ok, Err}
use Rattle.machine.specs.declared.Record.{Record}
use Rattle.machine.specs.Session.{start_record}
use Rattle.rom_flow.specs.declared.kind.Kind.{Kind}
use Rattle.rom_flow.specs.declared.kind.Kind.TheVariants.{P, E}
use Rattle.rom_flow.specs.declared.kind.UnknownKind.{UnknownKind}
use Rattle.rom_flow.specs.declared.step.Step.TheVariants.{SendStx}
use Rattle.rom_flow.specs.State.{State, state}

-- the numbers of the kinds (rules, 4.1)
abbrev pub kind_number : Kind → ℕ
kind_number P = 0
kind_number E = 1

-- the kind that has a number, or that none has
abbrev pub kind_of : (number : ℕ) → Result Kind UnknownKind
kind_of number = cond (eqb number 0) (Ok P) (cond (eqb number 1) (Ok E) (Err (record { 0 = number })))

-- a fresh record with this kind number, known or not
abbrev pub fresh_record : (kind : ℕ) → Record
fresh_record kind = start_record kind

abbrev pub fresh : Kind → (ram : List ℕ) → State
fresh kind ram = state kind SendStx 0 ram
