-- An offer names a part that lies in its file, and that part is the file's code.
-- Assumes nothing.
use Prim.Native.Nat.{ℕ, ◌+◌, ◌≤◌}
use mathlib.Core.Path.{◌≡◌, refl, ap, ◌∙◌}
use mathlib.Core.Bool.{Bool, true, false, cond}
use mathlib.Core.List.{List}
use native.Mathlib.Omega.{arith}
use lib.Dec.{eqb}
use lib.ListN.{length, take, drop}
use denote.Ref.{Bor}
use Rattle.std.specs.Prelude.{Option, Some, None}
use Rattle.std.specs.declared.cmp.Ordering.{Ordering}
use Rattle.std.specs.declared.cmp.Ordering.TheVariants.{Less, Equal, Greater}
use Rattle.version.specs.Order.{compared_fields}
use Rattle.image.specs.declared.Image.{Image}
use Rattle.image.specs.Header.{version_at, header_length, code_at}
use Rattle.image.specs.Valid.{image_at}
use Rattle.image.proofs.Images.{found-size, found_inside}
use Rattle.offer.specs.declared.Offered.{Offered}
use Rattle.offer.specs.Offer.{candidate_file, judged, offer_of, file_of, HandsBack, offer_code}

module _ (i c : List ℕ) where
  -- what an offer names lies in the file that it names, and is the code to be handed back
  pub record Names (o : Offered) : Type 0 where
    pub inside : o.place + o.size ≤ length (file_of o i c)
    pub code : take o.size (drop o.place (file_of o i c)) ≡ offer_code i c

  -- the code of an image that was found at the start of a file
  whole : (file : List ℕ) (image : Image) → image_at file 0 ≡ Some image → take image.size (drop header_length file) ≡ code_at file 0
  whole file image e = ap (λ (k : ℕ). take k (drop header_length file)) (found-size file 0 image e)

  by-images : (I C : Option Image) (v : Option Ordering) → image_at i 0 ≡ I → image_at c 0 ≡ C → offer_of i c ≡ judged I C v → Names (judged I C v)
  unfolding offer_code
  by-images None C v a b e = record { inside = omega arith; code = simp e }
  by-images (Some x) None v a b e = record { inside = omega arith; code = simp e }
  by-images (Some x) (Some y) None a b e = record { inside = omega arith; code = simp e }
  by-images (Some x) (Some y) (Some Less) a b e = record { inside = found_inside c 0 y b; code = simp e (whole c y b) }
  by-images (Some x) (Some y) (Some Equal) a b e = record { inside = found_inside i 0 x a; code = simp e (whole i x a) }
  by-images (Some x) (Some y) (Some Greater) a b e = record { inside = found_inside i 0 x a; code = simp e (whole i x a) }

  pub offer-names : Names (offer_of i c)
  unfolding offer_of
  offer-names = by-images (image_at i 0) (image_at c 0) (compared_fields (version_at i 0) (version_at c 0)) refl refl refl

-- what an offer hands back is the code of whichever file wins, and nothing where it is refused
pub handed-back : (i c part : Bor (List ℕ)) → HandsBack i c part → part.now ≡ offer_code i.now c.now
handed-back i c part h =
    h.bytes ∙ rw (same (eqb (offer_of i.now c.now).file candidate_file)) (offer-names i.now c.now).code
  where
    same : (t : Bool) → (cond {A = Bor (List ℕ)} t c i).now ≡ cond {A = List ℕ} t c.now i.now
    same true = refl
    same false = refl
