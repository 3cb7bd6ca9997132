-- The proved set holds, by computation of the definitions.
-- Assumes nothing.
use Rattle.std.proofs.Common.{refl}
use Rattle.numbers.specs.Number.{number_at}
use Rattle.wire.specs.Range.{lies_in}
use Rattle.wire.specs.Length.{is_flash_length}
use Rattle.crc.specs.Register.{leaving, moved, placed, after_bit, after_bits, after_byte, after}
use Rattle.crc.specs.Crc.{crc_of}
use Rattle.memory.specs.Flash.{erased}
use Rattle.opcodes.specs.Opcode.{opcode_of}
use Rattle.command.specs.Check.{judged}
use Rattle.command_execution.specs.Execution.{executed}
use Rattle.version.specs.Text.{is_number, well_formed}
use Rattle.version.specs.Rank.{rank_of}
use Rattle.version.specs.Order.{compared_fields, order_of}
use Rattle.image.specs.Rule.{first_broken}
use Rattle.image.specs.Valid.{is_valid, image_at}
use Rattle.slot.specs.Id.{is_newer}
use Rattle.slot.specs.Product.{product_inside, product_marked, product_at}
use Rattle.slot.specs.Slot.{select_of}
use Rattle.headers.specs.ImageHeader.{image_header_of}
use Rattle.machine.specs.Uncut.{drain, feed, uncut}
use Rattle.rom_flow.specs.Flow.{xor_of}
use Rattle.figures.specs.ProvedSet.{AllHold, proved_set}

pub proved-set : AllHold proved_set
unfolding number_at lies_in is_flash_length first_broken is_valid image_at product_inside product_marked product_at is_newer select_of image_header_of erased judged executed opcode_of leaving moved placed after_bit after_bits after_byte after crc_of is_number well_formed rank_of compared_fields order_of drain feed uncut xor_of
proved-set = (refl, (refl, (refl, (refl, (refl, (refl, (refl, (refl, (refl, (refl, (refl, (refl, (refl, (refl, (refl, (refl, (refl, (refl, tt))))))))))))))))))
