-- `recording::run::Run::first`: what is left in the run is what was left at first, and it lies where the entries do.
-- Assumes nothing.
use Rattle.std.proofs.Common.{◌+◌, ◌<◌, ◌≤◌, length, rules, arith, refl, ap}
use Rattle.std.proofs.lemmas.Bool.Decides.{nat_tests}
use Rattle.recording.proofs.Runs.{head-there, past-there, own_kind, other_kind}
use Rattle.recording.proofs.Parts.{lies-whole}
use Rattle.recording.proofs.run.Run.first.Goals as goal
use Rattle.recording.proofs.run.Run.first.Goals.{then-rest-kind, else-rest-kind}

pub size_in-past-requires : goal.size_in-past-requires
size_in-past-requires c =
    let none : length c.loop-rest.run.bytes.now ≤ 0 = grind (arith, nat_tests) in
    let there : 0 < length c.loop-rest.run.after.now = grind (arith, nat_tests) in
    head-there c.loop-rest.invariant none there

pub overflow_add-past : goal.overflow_add-past
overflow_add-past c =
    let none : length c.loop-rest.run.bytes.now ≤ 0 = grind (arith, nat_tests) in
    let there : 0 < length c.loop-rest.run.after.now = grind (arith, nat_tests) in
    let inside = past-there c.loop-rest.invariant none there (3 + c.size_in-past.result) (ap (λ size. 3 + size) c.size_in-past.ensures) in
    search rules

pub slice_bounds-run-end-in-loop-rest : goal.slice_bounds-run-end-in-loop-rest
slice_bounds-run-end-in-loop-rest c =
    let none : length c.loop-rest.run.bytes.now ≤ 0 = grind (arith, nat_tests) in
    let there : 0 < length c.loop-rest.run.after.now = grind (arith, nat_tests) in
    past-there c.loop-rest.invariant none there (3 + c.size_in-past.result) (ap (λ size. 3 + size) c.size_in-past.ensures)

pub slice_bounds-run-count-in-loop-rest : goal.slice_bounds-run-count-in-loop-rest
slice_bounds-run-count-in-loop-rest c =
    let none : length c.loop-rest.run.bytes.now ≤ 0 = grind (arith, nat_tests) in
    let there : 0 < length c.loop-rest.run.after.now = grind (arith, nat_tests) in
    past-there c.loop-rest.invariant none there (3 + c.size_in-past.result) (ap (λ size. 3 + size) c.size_in-past.ensures)

pub slice_bounds-run-start-in-loop-rest : goal.slice_bounds-run-start-in-loop-rest
slice_bounds-run-start-in-loop-rest c =
    let none : length c.loop-rest.run.bytes.now ≤ 0 = grind (arith, nat_tests) in
    let there : 0 < length c.loop-rest.run.after.now = grind (arith, nat_tests) in
    past-there c.loop-rest.invariant none there (3 + c.size_in-past.result) (ap (λ size. 3 + size) c.size_in-past.ensures)

pub loop-rest-preserved : goal.loop-rest-preserved
loop-rest-preserved c =
    let none : length c.loop-rest.run.bytes.now ≤ 0 = grind (arith, nat_tests) in
    let there : 0 < length c.loop-rest.run.after.now = grind (arith, nat_tests) in
    let past = ap (λ size. 3 + size) c.size_in-past.ensures in
    elim c.if-rest-kind.branch [
      | then-rest-kind w ↦ rw w.own-is (own_kind c.loop-rest.invariant none there _ past w.if-rest-kind.true)
      | else-rest-kind w ↦ rw w.own-is (other_kind c.loop-rest.invariant none there _ past w.if-rest-kind.false)
    ]

pub returns-else-not-is_empty-clause-lies : goal.returns-else-not-is_empty-clause-lies
returns-else-not-is_empty-clause-lies c = c.loop-rest.invariant.stays.lies c.args.entries 0 (lies-whole c.args.kind _ c.args.entries refl (omega arith) refl)

pub returns-after-loop-rest-clause-lies : goal.returns-after-loop-rest-clause-lies
returns-after-loop-rest-clause-lies c = c.loop-rest.invariant.stays.lies c.args.entries 0 (lies-whole c.args.kind _ c.args.entries refl (omega arith) refl)
