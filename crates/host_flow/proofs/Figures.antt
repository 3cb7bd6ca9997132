-- The worked exchanges, by computation of the definition.
-- Assumes nothing.
use mathlib.Core.Path.{◌≡◌, refl}
use mathlib.Core.List.{map}
use Rattle.numbers.specs.Number.{number_at}
use Rattle.crc.specs.Register.{leaving, moved, placed, after_bit, after_bits, after_byte, after}
use Rattle.crc.specs.Crc.{crc_of}
use Rattle.machine.specs.Uncut.{drain, feed, uncut}
use Rattle.opcodes.specs.Opcode.{opcode_of}
use Rattle.host_command.specs.Exchange.{exchange_of}
use Rattle.host_flow.specs.Flow.{payload_crc, answer_crc}
use Rattle.host_flow.specs.Figures.{Figure, given, figures}

pub figures-hold : map given figures ≡ map (λ (f : Figure). f.wanted) figures
unfolding number_at leaving moved placed after_bit after_bits after_byte after crc_of drain feed uncut opcode_of exchange_of payload_crc answer_crc
figures-hold = refl
