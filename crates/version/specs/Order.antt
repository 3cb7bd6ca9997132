-- The order of two versions, number by number: -1, 0 or 1 (rules, 8.3), or its refusal with 61 (rules, 2.3).
-- Assumes nothing.
use Rattle.std.specs.Prelude.{ℕ, List, [], ◌∷◌, cond, ◌&&◌, ltb, pos, negsuc, Option, Some, None}
use Rattle.std.specs.Bool.{then_some}
use Rattle.std.specs.declared.cmp.Ordering.{Ordering}
use Rattle.std.specs.declared.cmp.Ordering.TheVariants.{Less, Equal, Greater}
use Rattle.version.specs.declared.order.Ordered.{Ordered}
use Rattle.version.specs.Text.{well_formed}
use Rattle.version.specs.Rank.{rank_of, malformed_text}

-- two ranks, number by number: the first place at which they differ decides
abbrev pub compared : List ℕ → List ℕ → Ordering
compared [] q = Equal
compared (x ∷ p) [] = Equal
compared (x ∷ p) (y ∷ q) = cond (ltb x y) Less (cond (ltb y x) Greater (compared p q))

-- two fields, by their ranks
unfoldable pub compared_fields : List ℕ → List ℕ → Option Ordering
compared_fields a b = then_some (well_formed a && well_formed b) (compared (rank_of a).rank (rank_of b).rank)

-- the number and the order of a comparison
abbrev pub ordered : Option Ordering → Ordered
ordered (Some Less) = record { number = 0; order = negsuc 0 }
ordered (Some Equal) = record { number = 0; order = pos 0 }
ordered (Some Greater) = record { number = 0; order = pos 1 }
ordered None = record { number = malformed_text; order = pos 0 }

-- the order of two fields
unfoldable pub order_of : List ℕ → List ℕ → Ordered
order_of a b = ordered (compared_fields a b)
