use Rattle.std.proofs.Common.{◌≡◌, filter, not, take}
use Rattle.net_model.specs.declared.part.Edge.{Edge}
use Rattle.parallel_rounds.specs.LastRounds.{was_low}
use Rattle.parallel_rounds.proofs.last_round.delta_among.Given as goal

abbrev pub invariant-loop-edge : goal.invariant-loop-edge
invariant-loop-edge l = l.delta.items ≡ filter (λ (edge : Edge). not (was_low l.before edge)) (take l.edge-index l.edges)
