-- `tray::put_entries`: the entries of the fields so far are at the front of the room.
-- Assumes nothing.
use Rattle.std.proofs.Common.{◌≡◌, ◌/◌, ◌<◌, get_or, length, refl, ◌∙◌, [], add-one, arith}
use Rattle.version.specs.Text.{field_length}
use Rattle.tray.specs.Tray.{entry_of, entries_of}
use Rattle.tray.specs.Entry.{field_at}
use Rattle.tray.proofs.Entries.{chunk-at, entries_length, one_more}
use Rattle.tray.proofs.put_entries.Goals as goal

pub loop-place-init : goal.loop-place-init
loop-place-init c = record {
  room = rw (entries_length c.args.fields.now) at c.requires;
  so_far = refl;
}

pub loop-place-preserved : goal.loop-place-preserved
unfolding entry_of
loop-place-preserved c =
    let l = c.loop-place in
    let within : l.place < length c.args.fields.now / field_length = omega (arith, c.as_chunks.ensures.front_len) in
    let field : get_or c.as_chunks.result.0.now l.place [] ≡ field_at l.place c.args.fields.now =
    rw c.as_chunks.ensures.front (chunk-at l.place _ c.args.fields.now [] within) in
    record {
      room = l.invariant.room;
      so_far = rw add-one (one_more l.place c.args.fields.now c.args.ranks.now l.ranks _ (omega arith) l.invariant.so_far
          (c.put_entry.ensures ∙ rw (c.rank.ensures, field)));
    }

pub returns : goal.returns
unfolding entries_of
returns c =
    let all : c.loop-place.place ≡ length c.args.fields.now / field_length = omega (arith, c.as_chunks.ensures.front_len) in
    rw all at c.loop-place.invariant.so_far
