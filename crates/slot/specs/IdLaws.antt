-- What the order of ids comes to (rules, 10.3): 0 is newer than 255; the next id is the newer; of any two ids but 255 and 0 the larger.
-- Assumes nothing.
use Rattle.std.specs.Prelude.{◌≡◌, ℕ, ◌+◌, ◌<◌, true, false, nat_lt}
use Rattle.wire.specs.Bytes.{Byte}
use Rattle.slot.specs.Id.{next_id, is_newer}

-- and 254 is newer than 0 still
abbrev pub ZeroAfter255 : Type 0
ZeroAfter255 = (is_newer 0 255 ≡ true) × ((is_newer 255 0 ≡ false) × (is_newer 254 0 ≡ true))

abbrev pub NextIsNewer : Type 0
NextIsNewer = (id : ℕ) → Byte id → (is_newer (next_id id) id ≡ true) × (is_newer id (next_id id) ≡ false)

-- 255 and 0 alone are 255 apart
abbrev pub OthersBySize : Type 0
OthersBySize = (id than : ℕ) → Byte id → Byte than → id < than + 255 → than < id + 255 → is_newer id than ≡ nat_lt than id
