-- The receiver's record, and which ones are unsound (rules, 4.5). Numbers that a phase does not use are ignored when a record comes in,
-- but for the place. They are 0 in every record that an accepted call hands out.
-- Assumes nothing.
use Rattle.std.specs.Prelude.{ℕ, cond, eqb, leb, ltb, Option, Some, None, Result, Ok, Err}
use Rattle.wire.specs.Unit.{is_in_ram}
use Rattle.machine.specs.declared.Record.{Record}
use Rattle.rom_flow.specs.declared.kind.Kind.{Kind}
use Rattle.rom_flow.specs.declared.kind.UnknownKind.{UnknownKind}
use Rattle.rom_flow.specs.declared.kind.Kind.TheVariants.{P, E}
use Rattle.rom_flow.specs.declared.step.Step.{Step}
use Rattle.rom_flow.specs.declared.step.Step.TheVariants.{SendStx, Header, SendAck, TakeCode, SendXor, TakeAck, SendNak, Running}
use Rattle.rom_flow.specs.declared.step.HeaderStep.{HeaderStep}
use Rattle.rom_flow.specs.declared.step.HeaderStep.TheVariants.{TakeSoh, TakeLow, TakeHigh, TakeExtendedLow, TakeExtendedHigh}
use Rattle.rom_flow.specs.Fresh.{kind_number, kind_of}
use Rattle.rom_record.specs.declared.Numbers.{Numbers}

abbrev pub fields : (phase total place held : ℕ) → Numbers
fields phase total place held = record { phase = phase; length = total; place = place; held = held }

-- a step in numbers; `held` is the low byte of a length, or the address at which code runs
abbrev pub header_fields : HeaderStep → Numbers
header_fields TakeSoh = fields 1 0 0 0
header_fields TakeLow = fields 2 0 0 0
header_fields (TakeHigh low) = fields 3 0 0 low
header_fields TakeExtendedLow = fields 4 0 0 0
header_fields (TakeExtendedHigh low) = fields 5 0 0 low

abbrev pub fields_of : Step → Numbers
fields_of SendStx = fields 0 0 0 0
fields_of (Header step) = header_fields step
fields_of (SendAck total) = fields 6 total 0 0
fields_of (TakeCode total place) = fields 7 total place 0
fields_of (SendXor total) = fields 8 total 0 0
fields_of (TakeAck total) = fields 9 total 0 0
fields_of SendNak = fields 10 0 0 0
fields_of (Running address) = fields 11 0 0 address.0

-- the record of a step
unfoldable pub written : Kind → Step → (reason : ℕ) → Record
written kind step reason =
    record {
      kind = kind_number kind;
      phase = (fields_of step).phase;
      opcode = 0;
      length = (fields_of step).length;
      place = (fields_of step).place;
      held = (fields_of step).held;
      reason = reason;
      spare = 0;
    }

-- with code of 1 byte or more, and no more than a RAM of `size` bytes
abbrev pub sized : (size total : ℕ) → Step → Option Step
sized size total step = cond (eqb total 0) None (cond (leb total size) (Some step) None)

-- code runs in RAM
abbrev pub running_in : (size address : ℕ) → Option Step
running_in size address = cond (is_in_ram (record { 0 = address }) size) (Some (Running (record { 0 = address }))) None

-- kind P has no extended length
abbrev pub extended : Kind → Step → Option Step
extended P step = None
extended E step = Some step

-- how many places a phase has: one for each code byte where code is taken, and else only 0
abbrev pub places_of : (phase total : ℕ) → ℕ
places_of phase total = cond (eqb phase 7) total 1

unfoldable pub phase_in : Kind → (size : ℕ) → Numbers → Option Step
phase_in kind size n =
    cond (eqb n.phase 0) (Some SendStx)
    (cond (eqb n.phase 1) (Some (Header TakeSoh))
    (cond (eqb n.phase 2) (Some (Header TakeLow))
    (cond (eqb n.phase 3) (Some (Header (TakeHigh n.held)))
    (cond (eqb n.phase 4) (extended kind (Header TakeExtendedLow))
    (cond (eqb n.phase 5) (extended kind (Header (TakeExtendedHigh n.held)))
    (cond (eqb n.phase 6) (sized size n.length (SendAck n.length))
    (cond (eqb n.phase 7) (sized size n.length (TakeCode n.length n.place))
    (cond (eqb n.phase 8) (sized size n.length (SendXor n.length))
    (cond (eqb n.phase 9) (sized size n.length (TakeAck n.length))
    (cond (eqb n.phase 10) (Some SendNak)
    (cond (eqb n.phase 11) (running_in size n.held)
    None)))))))))))

-- a place beyond what its phase takes or sends is unsound
unfoldable pub step_in : Kind → (size : ℕ) → Numbers → Option Step
step_in kind size n = cond (ltb n.place (places_of n.phase n.length)) (phase_in kind size n) None

abbrev pub with_kind : Kind → Option Step → Option (Kind × Step)
with_kind kind (Some step) = Some (kind, step)
with_kind kind None = None

abbrev pub decoded_with : (size : ℕ) → Numbers → Result Kind UnknownKind → Option (Kind × Step)
decoded_with size n (Ok kind) = with_kind kind (step_in kind size n)
decoded_with size n (Err unknown) = None

-- what a record stands for
unfoldable pub decoded_of : (size : ℕ) → Record → Option (Kind × Step)
decoded_of size r = decoded_with size (fields r.phase r.length r.place r.held) (kind_of r.kind)
