-- Ranges (rules, 1.5). The sums are sums of natural numbers, so 0xFFFFFFFF plus 1 is 0x100000000.
-- Assumes nothing.
use Rattle.std.specs.Prelude.{ℕ, ◌+◌, ◌-◌, Bool, ◌&&◌, cond, leb, Option, Some, None}

-- `count` bytes from the address `start` on lie wholly in the `size` bytes from the address `base` on
unfoldable pub lies_in : (start count base size : ℕ) → Bool
lies_in start count base size = leb base start && leb (start + count) (base + size)

-- the index in the memory at which such a range begins, or that it is not wholly in the memory
unfoldable pub place_in : (start count base size : ℕ) → Option ℕ
place_in start count base size = cond (lies_in start count base size) (Some (start - base)) None
