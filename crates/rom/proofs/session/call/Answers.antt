-- `rom::session::call`: the refusals in order, and what the loop gives written out.
-- Assumes nothing.
use mathlib.Core.Path.{refl, sym, ◌∙◌}
use native.Mathlib.Omega.{arith}
use Rattle.wire.proofs.Lengths.{ram-bounds}
use Rattle.rom_record.proofs.Records.{decoded-sound}
use Rattle.rom.proofs.Calls.{bad-length, bad-record, good}
use Rattle.rom.proofs.session.call.Goals as goal

pub returns-then-not-is_ram_length : goal.returns-then-not-is_ram_length
returns-then-not-is_ram_length c = bad-length _ _ _ _ (sym c.is_ram_length.ensures ∙ c.if-not-is_ram_length.true)

pub overflow_cast-size : goal.overflow_cast-size
overflow_cast-size c = omega (arith, (ram-bounds _ (sym c.is_ram_length.ensures ∙ c.if-not-is_ram_length.false)).1)

pub act-end-requires : goal.act-end-requires
act-end-requires c =
    record {
      fits = sym c.is_ram_length.ensures ∙ c.if-not-is_ram_length.false;
      step_sound = decoded-sound _ c.args.session _ _ (sym c.decode.ensures ∙ c.in-Some.is);
    }

pub returns-in_default : goal.returns-in_default
returns-in_default c =
    bad-record _ _ _ _ (sym c.is_ram_length.ensures ∙ c.if-not-is_ram_length.false) (sym c.decode.ensures ∙ c.in_default.is)

pub returns : goal.returns
returns c =
    rw (c.accepted.ensures, c.encode.ensures) (good _ _ _ _ (sym c.is_ram_length.ensures ∙ c.if-not-is_ram_length.false) _ _ (sym c.decode.ensures ∙ c.in-Some.is)
    _ _ _ c.act-end.ensures)
