use Rattle.std.proofs.Common.{◌++◌, ap, sym, ◌∙◌, subst}
use Rattle.net_model.specs.Network.{Plan}
use Rattle.net_model.specs.ShownForm.{shown_form}
use Rattle.cert_checker.specs.Judgement.{judgement_of}
use Rattle.dispatch_net.specs.OfClosure.{IsDispatchOfClosure}
use Rattle.play_command.specs.ForgeCommand.{IsLastMoment, controllable_text, judged_line, size_of}
use Rattle.play_command.proofs.ForgeLemmas.{puts_both, printed_controllable}
use Rattle.play_command.proofs.forged_network.print_controllable.Goals as goal

-- the shown form has no delay
pub last_moment-requires-clause-no_delay : goal.last_moment-requires-clause-no_delay
last_moment-requires-clause-no_delay g c = ap (λ (net : Plan). net.delay) c.shown.ensures

pub last_moment-requires-clause-dispatches : goal.last_moment-requires-clause-dispatches
last_moment-requires-clause-dispatches g c = subst (λ (net : Plan). IsDispatchOfClosure net c.args.dispatch) (sym c.shown.ensures) c.requires.dispatches

pub returns : goal.returns
returns g c =
    let net = shown_form c.args.session.now.state.net in
    let cert = c.args.certificate.now in
    let last = c.in_ok-last.last in
    let before = c.args.answer.now.text in
    let middle = c.push_controllable.new.answer.text in
    let after = c.push_judged.new.answer.text in
    printed_controllable net cert last before after c.requires.proves (subst (λ (n : Plan). IsLastMoment n last) c.shown.ensures c.in_ok-last.ensures)
    (puts_both before (controllable_text (size_of cert) last) (judged_line (judgement_of net cert)) middle after c.in_ok-push_controllable.ensures
    (c.in_ok-push_judged.ensures ∙ ap (λ (n : Plan). middle ++ judged_line (judgement_of (shown_form n) cert)) c.network.ensures))
