-- The numbers of a host's refused calls (rules, 2.1 and 15.2).
-- Assumes nothing.
use Rattle.std.specs.Prelude.{ℕ}
use Rattle.machine.specs.Session.{bad_record}
use Rattle.host_command.specs.Refusal as command
use Rattle.host.specs.declared.refusal.CallRefusal.{CallRefusal}
use Rattle.host.specs.declared.refusal.CallRefusal.TheVariants.{Command, Record}

abbrev pub refusal_number : CallRefusal → ℕ
refusal_number (Command refusal) = command.refusal_number refusal
refusal_number Record = bad_record
