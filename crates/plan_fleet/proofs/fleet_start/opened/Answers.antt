use Rattle.std.proofs.Common.{sym, subst}
use Rattle.strategy_model.specs.Plays.{IsInstant}
use Rattle.plan_fleet.proofs.PlanLemmas.{kept, opens}
use Rattle.plan_fleet.proofs.fleet_start.opened.Goals as goal

pub invariant_of-result : goal.invariant_of-result
invariant_of-result c =
    let decided = c.args.decided in
    let instant = subst IsInstant (sym c.requires.shown) (c.law_shown_form_is_instant.ensures decided.net c.sound.ensures) in
    kept decided.net decided.shown c.requires.shown c.law_controllable_have_canonical_closures.ensures instant c.in_ok-execution.execution c.in_ok-execution.ensures

pub returns : goal.returns
returns c =
    let decided = c.args.decided in
    let plan = c.sound.ensures in
    opens decided.net decided.shown c.requires.shown c.law_controllable_have_canonical_closures.ensures plan (c.law_shown_form_is_instant.ensures decided.net plan) c.law_controllable_is_shown.ensures
    c.in_ok-execution.execution c.in_ok-execution.ensures
