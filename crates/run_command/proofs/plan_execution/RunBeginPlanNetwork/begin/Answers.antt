use Rattle.std.proofs.Common.{◌≡◌, inl, inr, refl, ap, subst}
use Rattle.std.proofs.lemmas.Result.{IfOk-weaker}
use Rattle.net_model.specs.Network.{Plan}
use Rattle.net_model.specs.ShownForm.{shown_form}
use Rattle.event_phase.specs.ExecutionStart.{BeginsExecutionBy}
use Rattle.event_phase.specs.CompletionOrders.{CompletionOrder}
use Rattle.run_command.specs.RunCommand.{RunForm, run_begins}
use Rattle.verdicts.specs.Decisions.{IsOrderedForwardTable}
use Rattle.verdicts.specs.Verdict.{IsVerdictBy}
use Rattle.verdicts.specs.declared.verdict.Verdict.TheVariants.{Controllable, Refuted}
use Rattle.run_command.proofs.plan_execution.RunBeginPlanNetwork.begin.Goals as goal

pub begin_execution-requires : goal.begin_execution-requires
begin_execution-requires g c = record { closure = (subst (IsVerdictBy IsOrderedForwardTable c.into_network.result) c.in-Controllable.is c.in_ok-shown.ensures).1.by }

pub returns-in-Controllable-clause-begins : goal.returns-in-Controllable-clause-begins
returns-in-Controllable-clause-begins g c =
    let shown = c.in-Controllable.shown in
    let put = c.begin_execution.new.answer.text in
    let completion_order : c.self.inside.feeders ≡ c.args.self.completion_order = ap (λ (query : RunForm). query.completion_order) c.self.view_is in
    let decided : IsVerdictBy IsOrderedForwardTable c.into_network.result (Controllable c.in-Controllable.stated shown c.in-Controllable.closed) = subst (IsVerdictBy IsOrderedForwardTable c.into_network.result) c.in-Controllable.is c.in_ok-shown.ensures in
    let verdict : IsVerdictBy IsOrderedForwardTable c.args.value (Controllable c.in-Controllable.stated shown c.in-Controllable.closed) =
    subst (λ (n : Plan). IsVerdictBy IsOrderedForwardTable n (Controllable c.in-Controllable.stated shown c.in-Controllable.closed)) c.into_network.ensures.same decided in
    IfOk-weaker c.begin_execution.result (BeginsExecutionBy c.self.inside.feeders shown put) (run_begins c.args.self c.args.value put)
    (λ flow begins.
    subst (λ (n : Plan). run_begins c.args.self n put flow) verdict.0
    (inl (
      verdict.1.controllable,
      subst (λ (h : CompletionOrder). BeginsExecutionBy h (shown_form c.in-Controllable.stated) put flow) completion_order
          (subst (λ (n : Plan). BeginsExecutionBy c.self.inside.feeders n put flow) verdict.1.as_shown begins),
    ))) c.begin_execution.ensures.begins

pub returns-clause-begins : goal.returns-clause-begins
returns-clause-begins g c =
    let cert = c.in-Refuted.certificate in
    let decided : IsVerdictBy IsOrderedForwardTable c.into_network.result (Refuted cert) = subst (IsVerdictBy IsOrderedForwardTable c.into_network.result) c.in-Refuted.is c.in_ok-shown.ensures in
    let verdict : IsVerdictBy IsOrderedForwardTable c.args.value (Refuted cert) = subst (λ (n : Plan). IsVerdictBy IsOrderedForwardTable n (Refuted cert)) c.into_network.ensures.same decided in
    inr (verdict.0, (cert, verdict.1, (c.in_ok-put_refuted-in-Refuted.field-0, c.in_ok-put_refuted-in-Refuted.ensures, refl)))
