-- The figures, computed.
-- Assumes nothing.
use mathlib.Core.Path.{refl}
use Rattle.wire.specs.Length.{is_between, is_flash_length}
use Rattle.wire.specs.Range.{lies_in, place_in}
use Rattle.numbers.specs.Number.{number_at}
use Rattle.crc.specs.Register.{leaving, moved, placed, after_bit, after_bits, after_byte, after}
use Rattle.crc.specs.Crc.{crc_of}
use Rattle.machine.specs.Uncut.{drain, feed, uncut}
use Rattle.opcodes.specs.Opcode.{opcode_of}
use Rattle.command.specs.Check.{judged}
use Rattle.command_execution.specs.Execution.{executed}
use Rattle.uartboot_flow.specs.Flow.{crc16}
use Rattle.host_command.specs.Exchange.{exchange_of}
use Rattle.host_command.specs.Refusal.{refusal_of}
use Rattle.host_flow.specs.Flow.{payload_crc, answer_crc}
use Rattle.joined.specs.Figures.{VersionFigure, WriteFigure, LongFigure, ReadFigure, DirectFigure}

pub version-figure : VersionFigure
unfolding drain feed uncut opcode_of exchange_of refusal_of payload_crc answer_crc crc16 executed judged lies_in place_in number_at crc_of after after_byte after_bits after_bit moved placed leaving is_between is_flash_length
version-figure = record { not_refused = refl; fitting = record { ram_length = refl; flash_length = refl; work_length = refl }; host_is = refl; device_is = refl }

pub write-figure : WriteFigure
unfolding drain feed uncut opcode_of exchange_of refusal_of payload_crc answer_crc crc16 executed judged lies_in place_in number_at crc_of after after_byte after_bits after_bit moved placed leaving is_between is_flash_length
write-figure = record { not_refused = refl; fitting = record { ram_length = refl; flash_length = refl; work_length = refl }; host_is = refl; device_is = refl }

pub read-figure : ReadFigure
unfolding drain feed uncut opcode_of exchange_of refusal_of payload_crc answer_crc crc16 executed judged lies_in place_in number_at crc_of after after_byte after_bits after_bit moved placed leaving is_between is_flash_length
read-figure = record { not_refused = refl; fitting = record { ram_length = refl; flash_length = refl; work_length = refl }; host_is = refl; device_is = refl }

pub long-figure : LongFigure
unfolding drain feed uncut opcode_of exchange_of refusal_of payload_crc answer_crc crc16 executed judged lies_in place_in number_at crc_of after after_byte after_bits after_bit moved placed leaving is_between is_flash_length
long-figure = record { not_refused = refl; fitting = record { ram_length = refl; flash_length = refl; work_length = refl }; host_is = refl; device_is = refl }

pub direct-figure : DirectFigure
unfolding drain feed uncut opcode_of exchange_of refusal_of payload_crc answer_crc crc16 executed judged lies_in place_in number_at crc_of after after_byte after_bits after_bit moved placed leaving is_between is_flash_length
direct-figure = record { not_refused = refl; fitting = record { ram_length = refl; flash_length = refl; work_length = refl }; host_is = refl; device_is = refl }
