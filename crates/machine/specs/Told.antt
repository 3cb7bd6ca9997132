-- What a program's call tells, in the numbers of the rules (rules, 2.1 and 3.2).
-- Assumes nothing.
use Rattle.std.specs.Prelude.{ℕ, Result, Ok, Err}
use Rattle.wire.specs.Length.{bad_work, bad_ram, bad_flash}
use Rattle.machine.specs.Session.{bad_record, refused_report}
use Rattle.machine.specs.Stop.{standing_number}
use Rattle.machine.specs.declared.Record.{Record}
use Rattle.machine.specs.declared.Report.{Report}
use Rattle.machine.specs.declared.Accepted.{Accepted}
use Rattle.machine.specs.declared.refusal.Refusal.{Refusal}
use Rattle.machine.specs.declared.refusal.Refusal.TheVariants.{WorkLength, RamLength, FlashLength}
use Rattle.machine.specs.declared.refusal.Refusal.TheVariants as refusal

abbrev pub refusal_number : Refusal → ℕ
refusal_number WorkLength = bad_work
refusal_number RamLength = bad_ram
refusal_number FlashLength = bad_flash
refusal_number refusal.Record = bad_record

-- 0, or a refusal's number
abbrev pub outcome_number : {A E : Type 0} → (E → ℕ) → Result A E → ℕ
outcome_number number (Ok done) = 0
outcome_number number (Err why) = number why

-- the report of a call that was given a record: where it is refused, that record as it was
abbrev pub told : {E : Type 0} → (E → ℕ) → Record → Result Accepted E → Report
told number session (Ok done) =
    record { number = 0; standing = standing_number done.standing; taken = done.taken; sent = done.sent; session = done.session }
told number session (Err why) = refused_report (number why) session
