use Rattle.std.proofs.Common.{◌≡◌, ◌+◌, ◌++◌, drop}
use Rattle.situation_player.specs.ForgedParts.{parts_from, task_points}
use Rattle.situation_player.proofs.parts.push_points.Given as goal

abbrev pub invariant-loop-k : goal.invariant-loop-k
invariant-loop-k l = l.parts.items ++ parts_from (λ i task. task_points i) (l.k + 1) (drop l.k l.tasks) ≡ l.fn.parts.items ++ parts_from (λ i task. task_points i) 1 l.tasks
