-- `tray::put_entries`: the entries of the fields so far are at the front of the room.
-- Assumes nothing.
use Rattle.std.proofs.Common.{◌≡◌, ◌*◌, ◌/◌, ◌≤◌, length}
use Rattle.memory.specs.Store.{laid}
use Rattle.version.specs.Text.{field_length}
use Rattle.tray.specs.Entry.{entry_length}
use Rattle.tray.proofs.Entries.{first_entries}
use Rattle.tray.proofs.put_entries.Given as goal

abbrev pub invariant-loop-place : goal.invariant-loop-place
invariant-loop-place l = record {
  room : length l.fields / field_length * entry_length ≤ length l.initial.ranks;
  so_far : l.ranks ≡ laid (first_entries l.place l.fields) l.initial.ranks;
}
