use Rattle.std.proofs.Common.{ℕ, List, [], ◌∷◌, ◌++◌, ap, ◌∙◌}
use Rattle.texts.specs.PrintedLines.{printed_line}
use Rattle.plan_format.specs.PlanParts.{end_words}
use Rattle.show_command.proofs.ShowLemmas.{document_put}
use Rattle.show_command.proofs.show_question.put_document.Goals as goal

pub returns : goal.returns
returns c =
    let puts = c.in_ok-push_document.ensures ∙ ap (λ (text : List ℕ). (text ++ 10 ∷ []) ++ printed_line end_words) c.as_slice.ensures.value in
    document_put c.law_documents_stand_in_inputs.ensures c.args.net.now c.in_ok-document.document.items c.push_document.new.answer.text c.sound.ensures c.requires.numbers c.in_ok-document.ensures.text c.in_ok-document.ensures.read_back puts
