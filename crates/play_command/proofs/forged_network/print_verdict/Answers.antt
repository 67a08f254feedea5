use Rattle.std.proofs.Common.{IfOk, inr, sym, subst}
use Rattle.std.proofs.lemmas.Result.{IfOk-weaker}
use Rattle.net_model.specs.Network.{Plan, IsPlan}
use Rattle.net_model.specs.ShownForm.{shown_form}
use Rattle.refutation_certificates.specs.Refutations.{Refutes}
use Rattle.plan_session.specs.Kept.{IsDispatchIfControllable}
use Rattle.play_command.specs.ForgeCommand.{PutsAfter, PrintsRefuted, PrintsVerdict}
use Rattle.command_contracts.specs.declared.no_input.NoInputEnd.{NoInputEnd}
use Rattle.verdicts.proofs.VerdictLemmas.{decides_no, decides_yes}
use Rattle.play_command.proofs.forged_network.print_verdict.Goals as goal

pub print_controllable-requires-clause-dispatches : goal.print_controllable-requires-clause-dispatches
print_controllable-requires-clause-dispatches g c = λ lifetimes lives. (subst (IsDispatchIfControllable c.args.session.now.state.net) c.in-Some.is c.in_ok-dispatch.ensures).1

pub print_controllable-requires-clause-proves : goal.print_controllable-requires-clause-proves
print_controllable-requires-clause-proves g c =
    let net = c.args.session.now.state.net in
    let plan : IsPlan net = subst IsPlan c.network.ensures c.sound.ensures in
    let dispatched = subst (IsDispatchIfControllable net) c.in-Some.is c.in_ok-dispatch.ensures in
    λ lifetimes lives. decides_yes (shown_form net) c.in_ok-certificate.certificate ((c.law_controllable_is_shown.ensures net plan).0 dispatched.0) c.in_ok-certificate.ensures

pub print_refuted-requires-clause-refutes : goal.print_refuted-requires-clause-refutes
print_refuted-requires-clause-refutes g c =
    let net = c.args.session.now.state.net in
    let cert = c.in_ok-certificate.certificate in
    let plan : IsPlan net = subst IsPlan c.network.ensures c.sound.ensures in
    let never = subst (IsDispatchIfControllable net) c.in-None.is c.in_ok-dispatch.ensures in
    λ lifetimes lives. subst (λ (n : Plan). Refutes (shown_form n) cert) (sym c.network-in-None.ensures)
    (decides_no (shown_form net) cert (λ controls. never ((c.law_controllable_is_shown.ensures net plan).1 controls)) c.in_ok-certificate.ensures)

pub returns : goal.returns
returns g c =
    let net = shown_form c.args.session.now.state.net in
    let before = c.args.answer.now.text in
    let after = c.print_refuted.new.answer.text in
    IfOk-weaker c.print_refuted.result (λ (end : NoInputEnd). PutsAfter (λ more. PrintsRefuted net more end) before after) (λ (end : NoInputEnd). PutsAfter (λ more. PrintsVerdict net more end) before after)
    (λ end puts. (puts.0, puts.1, inr puts.2))
    (subst (λ (n : Plan). IfOk c.print_refuted.result (λ (end : NoInputEnd). PutsAfter (λ more. PrintsRefuted (shown_form n) more end) before after)) c.network-in-None.ensures c.print_refuted.ensures)
