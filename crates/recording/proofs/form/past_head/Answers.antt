-- `recording::form::past_head`: the mark, and then the version.
-- Assumes nothing.
use Rattle.std.proofs.Common.{sym, ap, ◌∙◌, rules}
use borrow.Author.Tests.{not-true, not-false}
use Rattle.recording.specs.Form.{is_version}
use Rattle.recording.proofs.Faults.{same-version, no-mark, other-version, good-version}
use Rattle.recording.proofs.Files.{version-inside}
use Rattle.recording.proofs.form.past_head.Goals as goal

pub returns-then-not-is_front-clause-fault : goal.returns-then-not-is_front-clause-fault
returns-then-not-is_front-clause-fault c = sym (no-mark c.args.file.now (sym c.is_front.ensures ∙ c.if-not-is_front.true))

pub returns-then-ne-clause-fault : goal.returns-then-ne-clause-fault
returns-then-ne-clause-fault c =
    let version = sym (same-version c.read_at.result) ∙ not-true _ (sym c.ne.ensures ∙ c.if-ne.true) in
    sym (other-version c.args.file.now (sym c.is_front.ensures ∙ c.if-not-is_front.false) (ap is_version (sym c.read_at.ensures) ∙ version))

pub slice_bounds-result-count : goal.slice_bounds-result-count
slice_bounds-result-count c =
    let version = sym (same-version c.read_at.result) ∙ not-false _ (sym c.ne.ensures ∙ c.if-ne.false) in
    version-inside c.args.file.now (ap is_version (sym c.read_at.ensures) ∙ version)

pub slice_bounds-result-start : goal.slice_bounds-result-start
slice_bounds-result-start c =
    let version = sym (same-version c.read_at.result) ∙ not-false _ (sym c.ne.ensures ∙ c.if-ne.false) in
    let inside = version-inside c.args.file.now (ap is_version (sym c.read_at.ensures) ∙ version) in
    search rules

pub returns-clause-fault : goal.returns-clause-fault
returns-clause-fault c =
    let version = sym (same-version c.read_at.result) ∙ not-false _ (sym c.ne.ensures ∙ c.if-ne.false) in
    sym (good-version c.args.file.now (sym c.is_front.ensures ∙ c.if-not-is_front.false) (ap is_version (sym c.read_at.ensures) ∙ version))
