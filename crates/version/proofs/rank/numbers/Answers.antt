-- `version::rank::numbers`: in each turn one number more is read.
-- Assumes nothing.
use Rattle.std.proofs.Common.{◌≡◌, eqb, get_or, true, sym, ◌∙◌, arith}
use Rattle.std.proofs.lemmas.Grind.{common_steps}
use Rattle.std.proofs.lemmas.Option.{gets}
use Rattle.version.specs.Text.{dot}
use Rattle.version.proofs.Ranking.{ranking-dotted}
use Rattle.version.proofs.rank.numbers.Goals as goal

pub loop-number-preserved : goal.loop-number-preserved
loop-number-preserved c =
    let dotted : eqb (get_or c.args.field.now c.in_ok-value.field-0.end 0) dot ≡ true = grind (arith, common_steps, gets) in
    ranking-dotted _ _ _ _ _ _ c.loop-number.invariant (sym c.decimal_at.ensures ∙ c.in_ok-value.was) dotted
