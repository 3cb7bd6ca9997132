-- Every command that the host doesn't refuse has its verdict, with what then follows.
-- Assumes nothing.
use Prim.Native.Nat.{◌≤◌, ◌<◌}
use mathlib.Core.Path.{◌≡◌}
use lib.Dec.{eqb, ltb}
use lib.ListN.{length}
use borrow.Author.Tests.{eqb-true, eqb-false, ltb-true, ltb-false}
use borrow.Table.Steps.{cases}
use Rattle.command_execution.specs.Execution.{verify_differs}
use Rattle.joined.specs.Accepted.{against, effect, Passes, Accepted}
use Rattle.joined.specs.Verdict.{Verdict, accepted, too_long, not_allowed, EveryVerdict}
use Rattle.joined.specs.Verdict as verdict
use Rattle.joined.proofs.Effects.{Ended, ends, differs, ended}
use Rattle.joined.proofs.Lines.{known, joined_line}
use Rattle.joined.proofs.Refusals.{header_refused, payload_refused, never-fails, not-verified}

pub every-verdict : EveryVerdict
every-verdict opcode payload answer m e fits =
    cases (ltb (length m.work) (length payload)) (λ t. long (ltb-true _ _ t)) (λ f. fitted (ltb-false _ _ f))
  where
    long : length m.work < length payload → Verdict opcode payload answer m
    long l = too_long l (header_refused opcode payload answer m e fits l)

    fitted : length payload ≤ length m.work → Verdict opcode payload answer m
    fitted short = cases (eqb (against opcode payload m) 0) (λ t. passed (eqb-true _ _ t)) (λ f. fails (eqb-false _ _ f))
      where
        fails : (against opcode payload m ≡ 0 → ⊥) → Verdict opcode payload answer m
        fails z = not_allowed short z (payload_refused opcode payload answer m e fits short z)

        passed : against opcode payload m ≡ 0 → Verdict opcode payload answer m
        passed z = go (ended opcode payload m ok)
          where
            ok : Passes opcode payload m
            ok = record { fitting = fits; has_length = (known opcode payload answer e).has_length; in_work = short; passes = z }

            go : Ended opcode payload m (effect opcode payload m) → Verdict opcode payload answer m
            go (ends x) =
                let whole : Accepted opcode payload m = record { good = ok; verified = never-fails verify_differs x } in
                accepted whole (joined_line opcode payload answer m e whole)
            go (differs d) = verdict.differs ok d.fails (not-verified opcode payload answer m e ok d.fails)
