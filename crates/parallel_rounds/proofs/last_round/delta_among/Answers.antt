-- One edge more.
use Rattle.std.proofs.Common.{pos, None, filter, not, ap, ◌∙◌}
use Rattle.std.proofs.lemmas.List.{take_all}
use Rattle.net_model.specs.declared.part.Edge.{Edge}
use Rattle.parallel_rounds.specs.LastRounds.{was_low}
use Rattle.parallel_rounds.proofs.DeltaSteps.{kept_more}
use Rattle.parallel_rounds.proofs.last_round.delta_among.Goals as goal

-- what is read if there is nothing
abbrev no_edge : Edge
no_edge = record { from = record { 0 = 0 }; to = record { 0 = 0 }; label = None; weight = pos 0 }

pub loop-edge-preserved : goal.loop-edge-preserved
loop-edge-preserved c = kept_more c.args.before.now c.args.edges.now c.loop-edge.edge-index no_edge c.loop-edge.delta.items c.push_delta.new.delta.items c.loop-edge-test.true c.loop-edge.invariant c.in_ok-push_delta.ensures

pub returns : goal.returns
returns c = c.loop-edge.invariant ∙ ap (filter (λ (edge : Edge). not (was_low c.args.before.now edge))) (take_all c.loop-edge.edge-index c.args.edges.now c.loop-edge-test.false)
