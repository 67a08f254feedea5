use Rattle.std.proofs.Common.{◌++◌, ℕ, List, ap, ◌∙◌, subst}
use Rattle.std.proofs.lemmas.Result.{on_ok_weaker}
use Rattle.session_command.specs.EditHistory.{IsDispatchedByClosure}
use Rattle.session_command.specs.SessionAnswers.{table_text}
use Rattle.session_command.specs.Sessions.{net_of}
use Rattle.session_command.proofs.EditingLemmas.{table_said}
use Rattle.session_command.proofs.edited_session.Editing.push_table.Goals as goal

pub returns-in-Some-clause-says : goal.returns-in-Some-clause-says
returns-in-Some-clause-says g c =
    let net = net_of c.args.self.now in
    let shown = c.in-Some.shown in
    let dispatch = c.in-Some.dispatch in
    let dispatched = subst (IsDispatchedByClosure net) c.in-Some.is c.in_ok-shown.ensures.dispatched in
    on_ok_weaker c.push_table.result
    (λ puts. table_said net shown dispatch c.push_table.new.answer.text dispatched (puts ∙ ap (λ (text : List ℕ). text ++ table_text shown dispatch.kept) c.requires)) c.push_table.ensures
