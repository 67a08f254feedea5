use Rattle.std.proofs.Common.{◌≡◌, ◌+◌, ◌++◌, drop}
use Rattle.situation_player.specs.ForgedParts.{parts_from, next_parts}
use Rattle.situation_player.proofs.parts.push_nexts.Given as goal

abbrev pub invariant-loop-k : goal.invariant-loop-k
invariant-loop-k l = l.parts.items ++ parts_from next_parts (l.k + 1) (drop l.k l.tasks) ≡ l.fn.parts.items ++ parts_from next_parts 1 l.tasks
