use Rattle.std.proofs.Common.{◌≤◌, List, length, subst}
use Rattle.net_model.specs.Limits.{most_bounds}
use Rattle.net_model.specs.declared.part.Bound.{Bound}
use Rattle.verdicts.specs.Decisions.{IsOrderedForwardTable}
use Rattle.verdicts.specs.Verdict.{IsVerdictBy}
use Rattle.deadline_search.proofs.AnswerLemmas.{full_is, memory_is, refuted_is}
use Rattle.deadline_search.proofs.tightest_deadline.tightest.Goals as goal

pub returns-then-bounds-ge-MOST_BOUNDS : goal.returns-then-bounds-ge-MOST_BOUNDS
returns-then-bounds-ge-MOST_BOUNDS g c =
    let verdict = subst (IsVerdictBy IsOrderedForwardTable c.args.net) c.in-Controllable.is c.in_ok-stated.ensures in
    let many = subst (λ (bounds : List Bound). most_bounds ≤ length bounds) c.bounds.ensures.bounds c.if-bounds-ge-MOST_BOUNDS.true in
    full_is c.args.net c.in-Controllable.stated c.in-Controllable.shown c.in-Controllable.closed verdict c.bounds.ensures.sound many

pub returns-in_err-name-in-Controllable : goal.returns-in_err-name-in-Controllable
returns-in_err-name-in-Controllable g c =
    let by = c.from_residual-in_err-name-in-Controllable.ensures in
    memory_is c.args.net c.args.from c.args.to c.from_residual-in_err-name-in-Controllable.result by.0 by.1

pub returns-in-Refuted : goal.returns-in-Refuted
returns-in-Refuted g c =
    let verdict = subst (IsVerdictBy IsOrderedForwardTable c.args.net) c.in-Refuted.is c.in_ok-stated.ensures in
    refuted_is c.args.net c.in-Refuted.refutation c.args.from c.args.to verdict
