use Rattle.dispatch_net.specs.Dispatchable.{conditions_at}
use Rattle.net_model.specs.declared.ids.PointId.{PointId}
use Rattle.session_command.specs.SessionAnswers.{conditions_text}
use Rattle.command_contracts.proofs.PointTextLemmas.{points_put}
use Rattle.session_command.proofs.session_answers.push_table.Goals as goal

pub loop-point-preserved : goal.loop-point-preserved
loop-point-preserved c =
    points_put (λ (point : PointId). conditions_text c.args.net.now point (conditions_at c.args.dispatch.now.kept point)) c.args.answer.now.text
    c.loop-point.answer.text c.push_conditions.new.answer.text c.loop-point.point c.loop-point.invariant c.in_ok-push_conditions.ensures
