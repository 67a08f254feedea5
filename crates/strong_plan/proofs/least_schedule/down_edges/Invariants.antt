use Rattle.std.proofs.Common.{◌≡◌, map, take}
use Rattle.strong_plan.specs.Answers.{down_edge}
use Rattle.strong_plan.proofs.least_schedule.down_edges.Given as goal

abbrev pub invariant-loop-link : goal.invariant-loop-link
invariant-loop-link l = l.edges.items ≡ map down_edge (take l.link-index l.links)
