-- The worked replays, by computation of the definition.
-- Assumes nothing.
use mathlib.Core.Path.{◌≡◌, refl}
use mathlib.Core.List.{map}
use Rattle.wire.specs.Length.{is_between, is_flash_length}
use Rattle.wire.specs.Range.{lies_in, place_in}
use Rattle.numbers.specs.Number.{number_at, read_at}
use Rattle.crc.specs.Register.{leaving, moved, placed, after_bit, after_bits, after_byte, after}
use Rattle.crc.specs.Crc.{crc_of}
use Rattle.machine.specs.Uncut.{drain, feed, uncut}
use Rattle.opcodes.specs.Opcode.{opcode_of}
use Rattle.command.specs.Check.{judged}
use Rattle.command_execution.specs.Execution.{executed}
use Rattle.uartboot_flow.specs.Flow.{crc16}
use Rattle.uartboot.specs.Session.{refusal_of}
use Rattle.recording.specs.Form.{head_fault, size_in, entry_fault}
use Rattle.recording.specs.Recording.{entries_at, entries_of, recording_of}
use Rattle.visit.specs.Compared.{compared}
use Rattle.visit.specs.Replay.{replay_of}
use Rattle.visit.specs.Figures.{Figure, given, figures}

pub figures-hold : map given figures ≡ map (λ (f : Figure). f.wanted) figures
unfolding is_between is_flash_length lies_in place_in number_at read_at leaving moved placed after_bit after_bits after_byte after crc_of drain feed uncut opcode_of judged executed crc16 refusal_of head_fault size_in entry_fault entries_at entries_of recording_of compared replay_of
figures-hold = refl
