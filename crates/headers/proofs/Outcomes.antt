-- What the numbers of a version field say of it.
-- Assumes nothing.
use Rattle.std.specs.Prelude.{Some, None}
use Rattle.std.specs.Bool.{then_some}
use Prim.Native.Nat.{ℕ}
use mathlib.Core.Path.{◌≡◌, sym, refl}
use mathlib.Core.List.{List}
use mathlib.Core.Bool.{Bool, true, false}
use lib.ListN.{length}
use Rattle.std.proofs.lemmas.Option.{none-some}
use Rattle.version.specs.Text.{field_length, well_formed}
use Rattle.version.specs.Rank.{numbers_of}
use Rattle.headers.proofs.Fields.{field-length}

kept : (well : Bool) (numbers rank : List ℕ) → then_some well numbers ≡ Some rank → well ≡ true
kept true numbers rank e = refl
kept false numbers rank e = absurd (none-some rank e)

left : (well : Bool) (numbers : List ℕ) → then_some well numbers ≡ None → well ≡ false
left true numbers e = absurd (none-some numbers (sym e))
left false numbers e = refl

module _ (version : List ℕ) where
  pub formed : (rank : List ℕ) → numbers_of version ≡ Some rank → well_formed version ≡ true
  formed rank e = kept _ _ rank e

  pub malformed : numbers_of version ≡ None → well_formed version ≡ false
  malformed e = left _ _ e

  pub formed-length : (rank : List ℕ) → numbers_of version ≡ Some rank → length version ≡ field_length
  formed-length rank e = field-length version (formed rank e)

pub ruleset outcomes = (formed, malformed, formed-length)
