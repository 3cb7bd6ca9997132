-- A line's machine sends at most one byte with each action.
-- Assumes nothing.
use Prim.Native.Nat.{ℕ, ◌≤◌}
use native.Mathlib.Omega.{arith}
use mathlib.Core.List.{List, [], ◌∷◌}
use lib.ListN.{length}
use Rattle.machine.specs.Machine.{Need, line_says, line}
use Rattle.machine.specs.Does.{Does, byte_of, line_of}
use Rattle.joining.specs.Diligence.{Brief}

pub says-brief : {S : Type 0} (byte : S → ℕ) (s : S) (view : List ℕ) → length (line_says byte s view) ≤ 1
says-brief byte s [] = omega arith
says-brief byte s (a ∷ view) = omega arith

pub line-brief : {S : Type 0} (need : S → Need) (took : S → ℕ → S) (byte : S → ℕ) (sent : S → S) (due : S → ℕ) → Brief (line need took byte sent due)
line-brief need took byte sent due s view = says-brief byte s view

pub does-brief : {S : Type 0} (does : S → Does ℕ S) (due : S → ℕ) → Brief (line_of does due)
does-brief does due s view = says-brief (λ s. byte_of (does s)) s view
