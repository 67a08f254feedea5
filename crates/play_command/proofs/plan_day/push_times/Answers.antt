use Rattle.net_model.specs.declared.ids.PointId.{PointId}
use Rattle.play_command.specs.PlayCommand.{happened_in, time_line}
use Rattle.command_contracts.proofs.PointTextLemmas.{points_put}
use Rattle.play_command.proofs.plan_day.push_times.Goals as goal

pub loop-point-preserved : goal.loop-point-preserved
loop-point-preserved c =
    points_put (λ (point : PointId). time_line c.args.net.now point (happened_in c.args.net.now c.args.shown.now point)) c.args.answer.now.text
    c.loop-point.answer.text c.push_time.new.answer.text c.loop-point.point c.loop-point.invariant c.in_ok-push_time.ensures
