use Rattle.std.proofs.Common.{◌≡◌, Err, ap, ◌∙◌}
use Rattle.std.proofs.lemmas.Result.{IfOk-weaker}
use Rattle.command_engine.specs.declared.endings.End.{End}
use Rattle.common_answers.specs.Faults.{fault_end, fault_line}
use Rattle.common_answers.specs.declared.faults.Fault.{Fault}
use Rattle.deadline_search.specs.declared.answer.DeadlineFault.{DeadlineFault}
use Rattle.deadline_command.specs.DeadlineAnswers.{deadline_answers, deadline_end, deadline_text}
use Rattle.deadline_command.specs.Points.{goal_number, bounds_limit_fault}
use Rattle.deadline_command.specs.declared.points.DeadlineWords.{DeadlineWords}
use Rattle.deadline_command.proofs.DeadlineAnswerLemmas.{deadline_put, full_put}
use Rattle.deadline_command.proofs.deadline_question.DeadlineQuestionQuestionPlanPoints.answer.Goals as goal

pub returns-in-Ok : goal.returns-in-Ok
returns-in-Ok g c =
    let put = c.put_deadline.new.answer.text in
    let deadline = c.in-Ok.deadline in
    let parts = c.into_parts-net.result in
    let are = c.into_parts-net.ensures in
    IfOk-weaker c.put_deadline.result (λ (end : End). (put ≡ deadline_text c.self.inside.words deadline) × (end ≡ deadline_end deadline)) (deadline_answers c.args.self c.args.value c.args.number put)
    (λ (end : End) puts. deadline_put c.args.self c.args.value c.args.number parts.0 parts.1 parts.2 are.net are.from.0 are.to.0 c.tightest.result deadline c.in-Ok.is c.tightest.ensures put end
    (puts.0 ∙ ap (λ (words : DeadlineWords). deadline_text words deadline) c.self.view_is, puts.1))
    c.put_deadline.ensures

pub returns-in-Err-Full : goal.returns-in-Err-Full
returns-in-Err-Full g c =
    let parts = c.into_parts-net.result in
    let reported : DeadlineWords → Fault = λ words. bounds_limit_fault (goal_number words.notation c.args.number) in
    full_put c.args.self c.args.value c.args.number parts.0 parts.1 parts.2 c.into_parts-net.ensures.net c.tightest.result (c.in-Err-Full.is
    ∙ ap (λ (fault : DeadlineFault). Err fault) c.in-Err-Full.field-0-is) c.tightest.ensures c.put_full.new.answer.text c.put_full.result
    (c.put_full.ensures.text ∙ ap (λ (words : DeadlineWords). fault_line (reported words)) c.self.view_is)
    (c.put_full.ensures.end ∙ ap (λ (words : DeadlineWords). fault_end (reported words)) c.self.view_is)
