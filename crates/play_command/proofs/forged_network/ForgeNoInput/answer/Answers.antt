use Rattle.std.proofs.Common.{◌≡◌, List, ◌++◌, ℕ, Ok, ap, ◌∙◌, subst}
use Rattle.std.proofs.lemmas.Result.{IfOk-weaker}
use Rattle.net_model.specs.BuiltNetwork.{built}
use Rattle.net_model.specs.ShownForm.{shown_form}
use Rattle.plan_session.specs.Sessions.{State}
use Rattle.situation_player.specs.ForgedParts.{forged_parts}
use Rattle.play_command.specs.ForgeCommand.{PutsAfter, PrintsForged, PrintsVerdict, counts_text}
use Rattle.play_command.specs.declared.forged_network.ForgeWords.{ForgeWords}
use Rattle.command_contracts.specs.declared.no_input.NoInputEnd.{NoInputEnd}
use Rattle.play_command.proofs.ForgeLemmas.{printed_forged}
use Rattle.play_command.proofs.forged_network.ForgeNoInput.answer.Goals as goal

pub returns : goal.returns
returns g c =
    let net = c.in_ok-net.net in
    let same = c.in_ok-session.session.state.net in
    let counted = c.push_counts.new.answer.text in
    let put = c.print_verdict.new.answer.text in
    let forged = subst (λ (words : ForgeWords). built (forged_parts words.number words.tasks) ≡ Ok net) c.self.view_is c.in_ok-net.ensures.forged in
    IfOk-weaker c.print_verdict.result (λ (end : NoInputEnd). PutsAfter (λ more. PrintsVerdict (shown_form same) more end) counted put) (PrintsForged c.args.self put)
    (λ end puts. printed_forged c.args.self net same counted put end forged (ap (λ (session : State). session.net) c.in_ok-session.ensures.opened.2) (c.in_ok-push_counts.ensures
    ∙ ap (λ (text : List ℕ). text ++ counts_text net) c.requires.empty_answer) puts)
    c.print_verdict.ensures
