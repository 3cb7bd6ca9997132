-- Laws of frames: what the header is, and how long it and the frame are.
-- Assumes nothing.
use Prim.Native.Nat.{ℕ, ◌+◌, ◌-◌, ◌≤◌, ◌<◌}
use mathlib.Core.Path.{◌≡◌, sym, ap}
use mathlib.Core.List.{List, ◌∷◌}
use mathlib.Core.Bool.{true, false}
use native.Mathlib.Omega.{arith}
use lib.ListN.{length, length-append}
use borrow.Author.Tests.{leb-true, leb-false}
use borrow.Table.Steps.{cases}
use Rattle.numbers.specs.Number.{bytes_of}
use Rattle.rom_flow.specs.declared.kind.Kind.{Kind}
use Rattle.rom_flow.specs.declared.kind.Kind.TheVariants.{P, E}
use Rattle.frame.specs.Frame.{longest, is_extended, length_field, header_of, frame_of}

pub longest-most : (kind : Kind) → longest kind ≤ 131071
longest-most P = omega arith
longest-most E = omega arith

-- which lengths are extended
pub extended-from : (kind : Kind) (count : ℕ) → is_extended kind count ≡ true → 65536 ≤ count
extended-from P count e = absurd (let z : ◌≡◌ {A = ℕ} 0 1 = cc in omega arith)
extended-from E count e = leb-true 65536 count e

pub plain-below : (kind : Kind) (count : ℕ) → is_extended kind count ≡ false → count ≤ longest kind → count < 65536
plain-below P count e h = omega arith
plain-below E count e h = leb-false 65536 count e

-- the header
pub extended-header : (kind : Kind) (count : ℕ) → is_extended kind count ≡ true → header_of kind count ≡ 0x01 ∷ 0 ∷ 0 ∷ bytes_of 2 (count - 65536)
unfolding length_field
extended-header kind count e = simp e

pub plain-header : (kind : Kind) (count : ℕ) → is_extended kind count ≡ false → header_of kind count ≡ 0x01 ∷ bytes_of 2 count
unfolding length_field
plain-header kind count e = simp e

pub header-most : (kind : Kind) (count : ℕ) → length (header_of kind count) ≤ 5
header-most kind count =
    cases (is_extended kind count)
    (λ e. omega (arith, ap length (extended-header kind count e)))
    (λ e. omega (arith, ap length (plain-header kind count e)))

pub frame-length : (kind : Kind) (code : List ℕ) → length (header_of kind (length code)) + length code + 1 ≡ length (frame_of kind code)
frame-length kind code = sym (simp length-append)
