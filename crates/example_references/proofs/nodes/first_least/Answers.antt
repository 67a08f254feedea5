-- The first of the least of the nodes so far is, with one node more, the lesser of it and of that node.
use Rattle.std.proofs.Common.{ap, ◌∙◌}
use Rattle.std.specs.Option.{option_map}
use Rattle.closure_model.specs.Least.{lesser}
use Rattle.closure_model.specs.ReferenceRound.{weight_for}
use Rattle.example_references.proofs.LeastSteps.{least_more, least_all, least_inside}
use Rattle.example_references.proofs.nodes.first_least.Goals as goal

pub loop-place-preserved : goal.loop-place-preserved
loop-place-preserved c =
    least_more (weight_for c.args.edge.now) c.args.nodes.now c.loop-place.place _ c.loop-place.first c.lesser-first.result c.loop-place-test.true c.loop-place.invariant
    (c.lesser-first.ensures ∙ ap (lesser c.loop-place.first) (c.at_place.ensures ∙ ap (option_map (λ w. (c.loop-place.place, w))) c.weight_for.ensures))

pub returns : goal.returns
returns c =
    let first = least_all (weight_for c.args.edge.now) c.args.nodes.now c.loop-place.place c.loop-place.first c.loop-place-test.false c.loop-place.invariant in
    record { first = first; inside = least_inside (weight_for c.args.edge.now) c.args.nodes.now c.loop-place.first first }
