use Rattle.std.proofs.Common.{[], ◌∷◌, ◌++◌, ◌-◌, length, take, ap, ◌∙◌}
use Rattle.net_model.specs.declared.part.Part.{Part}
use Rattle.situation_player.specs.ForgedParts.{task_points, task_parts, next_parts, parts_from, deadline_part}
use Rattle.situation_player.proofs.PartLemmas.{all_added}
use Rattle.situation_player.proofs.parts.parts_of_tasks.Goals as goal

pub returns : goal.returns
returns c =
    let tasks = c.args.tasks.now in
    all_added c.new-parts.result.items c.push_points.new.parts.items c.push_tasks.new.parts.items c.push_nexts.new.parts.items c.push.new.self.items
    (parts_from (λ i task. task_points i) 1 tasks) (parts_from task_parts 1 tasks) (parts_from next_parts 1 (take (length tasks - 1) tasks)) (deadline_part tasks c.args.cut ∷ [])
    c.new-parts.ensures.items c.in_ok-push_points.ensures c.in_ok-push_tasks.ensures c.in_ok-push_nexts.ensures
    (c.in_ok-push.ensures.items ∙ ap (λ (part : Part). c.push_nexts.new.parts.items ++ part ∷ []) c.in_ok-deadline.ensures)
