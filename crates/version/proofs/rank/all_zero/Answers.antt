-- `version::rank::all_zero`: by each byte.
-- Assumes nothing.
use Rattle.std.proofs.Common.{◌∙◌, eqb, ◌&&◌, refl, rules, tests}
use Rattle.std.specs.List.{list_all}
use Rattle.std.proofs.lemmas.Iterator.{YieldsList-from_slice}
use Rattle.std.proofs.lemmas.Iterator.Search.{all_from_yields_List}
use Rattle.std.proofs.lemmas.List.Recursion.{same_from_clauses}
use Rattle.version.specs.Text.{all_zero}
use Rattle.version.proofs.rank.all_zero.Goals as goal

pub returns : goal.returns
returns c =
    let bytes = c.args.bytes.now in
    all_from_yields_List (λ b. eqb b 0) _ _ _ c.all.ensures.ran (YieldsList-from_slice bytes cc) (λ x b q k. search (rules, tests))
    ∙ same_from_clauses (list_all (λ b. eqb b 0)) all_zero (λ b z. eqb b 0 && z) refl (λ _ _. refl) (λ _ _. refl) bytes
