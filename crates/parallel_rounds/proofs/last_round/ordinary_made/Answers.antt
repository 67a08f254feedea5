-- One edge more.
use Rattle.std.proofs.Common.{ap, ◌∙◌, arith}
use Rattle.std.proofs.lemmas.List.{take_all}
use Rattle.parallel_rounds.specs.LastRounds.{ordinary_made}
use Rattle.parallel_rounds.proofs.DeltaSteps.{ordinary_more}
use Rattle.parallel_rounds.proofs.last_round.ordinary_made.Goals as goal

pub loop-place-preserved : goal.loop-place-preserved
loop-place-preserved c = ordinary_more c.args.made.now c.loop-place.place c.edge.result c.loop-place.edges.items c.push_ordinary.new.edges.items
    (omega (arith, c.loop-place-test.true, c.len-place-end.ensures)) c.edge.ensures c.loop-place.invariant c.in_ok-push_ordinary.ensures

pub returns : goal.returns
returns c = c.loop-place.invariant ∙ ap ordinary_made (take_all c.loop-place.place c.args.made.now (omega (arith, c.loop-place-test.false, c.len-place-end.ensures)))
