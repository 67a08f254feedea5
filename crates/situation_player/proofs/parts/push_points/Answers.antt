use Rattle.situation_player.specs.ForgedParts.{task_points}
use Rattle.situation_player.specs.Tasks.{task_from}
use Rattle.situation_player.proofs.PartLemmas.{one_more}
use Rattle.situation_player.proofs.parts.push_points.Goals as goal

pub loop-k-preserved : goal.loop-k-preserved
loop-k-preserved c =
    one_more (λ i task. task_points i) c.args.tasks.now c.loop-k.k (task_from 0) c.args.parts.now.items c.loop-k.parts.items c.push_task_points.new.parts.items c.loop-k-test.true
    c.in_ok-push_task_points.ensures c.loop-k.invariant
