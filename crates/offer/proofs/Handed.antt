-- The part that an offer names, by whether it names the candidate.
-- Assumes nothing.
use Prim.Native.Nat.{ℕ, ◌+◌, ◌≤◌}
use mathlib.Core.Path.{◌≡◌}
use mathlib.Core.List.{List}
use lib.ListN.{length}
use borrow.Author.Tests.{eq-eqb, ne_eqb}
use Rattle.offer.specs.Offer.{candidate_file, offer_of}
use Rattle.offer.proofs.Parts.{offer-names}

module _ (i c : List ℕ) where
  pub inside_candidate : (offer_of i c).file ≡ candidate_file → (offer_of i c).place + (offer_of i c).size ≤ length c
  inside_candidate e = simp (eq-eqb _ _ e) at (offer-names i c).inside

  pub inside_installed : ((offer_of i c).file ≡ candidate_file → ⊥) → (offer_of i c).place + (offer_of i c).size ≤ length i
  inside_installed n = simp (ne_eqb _ _ n) at (offer-names i c).inside

pub ruleset handed = (inside_candidate, inside_installed)
