-- The order of ids, by which of the two follows the other.
-- Assumes nothing.
use Rattle.std.proofs.Common.{◌≡◌, ℕ, ◌+◌, ◌<◌, true, refl, arith, le-ltb, lt-ltb, eq-eqb, ne_eqb, eqb-true}
use borrow.Table.Steps.{cases}
use Rattle.wire.specs.Bytes.{Byte}
use Rattle.slot.specs.Id.{next_id, follows, is_newer}
use Rattle.slot.specs.IdLaws.{ZeroAfter255, NextIsNewer, OthersBySize}

pub zero-after-255 : ZeroAfter255
unfolding is_newer
zero-after-255 = (refl, (refl, refl))

-- the next but one is another id
not_back : (id : ℕ) → Byte id → id ≡ next_id (next_id id) → ⊥
not_back id b e = omega (arith, e)

pub next-is-newer : NextIsNewer
unfolding is_newer
next-is-newer id b =
    let same = eq-eqb (next_id id) (next_id id) refl in
    (rw same, rw (ne_eqb id (next_id (next_id id)) (not_back id b), same))

-- an id that follows one that is less than 255 above it is the larger
larger : (id other : ℕ) → Byte other → other < id + 255 → follows id other ≡ true → other < id
larger id other b near t = omega (arith, eqb-true id (next_id other) t)

pub others-by-size : OthersBySize
unfolding is_newer
others-by-size id than b b' near near' =
    cases (follows id than)
    (λ t. rw (t, lt-ltb than id (larger id than b' near' t)))
    (λ f. rw f (cases (follows than id) (λ t. let e = larger than id b near t in rw (t, le-ltb than id (omega (arith, e)))) (λ f'. rw f')))
