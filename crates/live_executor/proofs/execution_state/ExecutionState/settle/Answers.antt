use Rattle.std.proofs.Common.{rules, ◌≡◌, ◌∙◌, sym, subst}
use Rattle.std.specs.Prelude.{Result, Err}
use Rattle.execution_model.specs.declared.feed_answers.Why.{Why}
use Rattle.live_executor.specs.FeedParts.{Settles}
use Rattle.live_executor.proofs.CompletionLemmas.{refused_one, overdue_one, none_late}
use Rattle.live_executor.proofs.execution_state.ExecutionState.settle.Goals as goal

pub complete-requires-clause-stands : goal.complete-requires-clause-stands
complete-requires-clause-stands c = c.requires.stands

pub complete-requires-clause-listed : goal.complete-requires-clause-listed
complete-requires-clause-listed c = c.requires.listed

pub returns-in_err-complete : goal.returns-in_err-complete
returns-in_err-complete c =
    let is : c.from_residual.result ≡ Err c.in_err-complete.field-0.0 = search rules in
    subst (λ (answer : Result (Unit {0}) Why). Settles c.args.dispatched.now c.args.moment c.args.listed.now answer c.args.self.now c.complete.new.self) (sym is)
    (refused_one c.args.dispatched.now c.args.moment c.args.listed.now c.args.self.now c.complete.new.self c.in_err-complete.field-0.0 c.in_err-complete.ensures)

pub first_overdue-requires : goal.first_overdue-requires
first_overdue-requires c = c.in_ok-complete.ensures.goes.stands

pub returns-in-Some : goal.returns-in-Some
returns-in-Some c =
    overdue_one c.args.dispatched.now c.args.moment c.args.listed.now c.args.self.now c.complete.new.self c.in-Some.why c.in_ok-complete.ensures (sym c.first_overdue.ensures ∙ c.in-Some.is)

pub returns-in-None : goal.returns-in-None
returns-in-None c =
    none_late c.args.dispatched.now c.args.moment c.args.listed.now c.args.self.now c.complete.new.self c.in_ok-complete.ensures (sym c.first_overdue.ensures ∙ c.in-None.is)
