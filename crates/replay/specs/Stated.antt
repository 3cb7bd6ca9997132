-- The memories that the program states (rules, 16.5).
-- Assumes nothing.
use Rattle.std.specs.Prelude.{ℕ, List, replicate}
use Rattle.memory.specs.Memories.{Memories, memories}

unfoldable pub blank_ram : List ℕ
blank_ram = replicate 131072 0

unfoldable pub blank_flash : List ℕ
blank_flash = replicate 1048576 0xFF

unfoldable pub blank_work : List ℕ
blank_work = replicate 65535 0

abbrev pub stated : Memories
stated = memories blank_ram blank_flash blank_work
