-- What is read of a file from a place on, by whether the code's bytes lie there.
-- Assumes nothing.
use Rattle.std.specs.Prelude.{Some, None}
use Prim.Native.Nat.{ℕ, ◌+◌, ◌≤◌}
use mathlib.Core.Path.{◌≡◌}
use mathlib.Core.List.{List}
use lib.ListN.{length}
use denote.Ref.{Bor}
use borrow.Rule.Slice.PartAt.{sl_partˢ}
use Rattle.wire.specs.Range.{place_in}
use Rattle.wire.proofs.Parts.{part-taken}
use Rattle.wire.proofs.Ranges.{lies-inside, lies-outside, lies-fits}
use Rattle.sheet.specs.declared.Code.{Code}
use Rattle.sheet.specs.Sheet.{code_in, lies_from, Shows}

module _ (file : Bor (List ℕ)) (place : ℕ) (code : Code) (its : code ≡ code_in file.now) where
  pub read-fits : (at : ℕ) → place_in place code.size 0 (length file.now) ≡ Some at → place + code.size ≤ length file.now
  read-fits at e = lies-fits _ _ _ (lies-inside place code.size 0 (length file.now) at e)

  pub read-shows : (at : ℕ) → place_in place code.size 0 (length file.now) ≡ Some at →
      Shows file place (sl_partˢ file (place + file.ref_ptr.1) place (place + code.size))
  unfolding lies_from
  read-shows at e =
      let lies = lies-inside place code.size 0 (length file.now) at e in
      rw (← its) (simp lies (part-taken file place code.size))

  pub read-nothing : place_in place code.size 0 (length file.now) ≡ None → Shows file place (sl_partˢ file (0 + file.ref_ptr.1) 0 0)
  unfolding lies_from
  read-nothing e =
      let over = lies-outside place code.size 0 (length file.now) e in
      rw (← its) (simp over (part-taken file 0 0))

pub ruleset taken = (read-fits, read-shows, read-nothing)
