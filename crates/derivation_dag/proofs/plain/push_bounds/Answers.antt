use Rattle.std.proofs.Common.{◌∙◌, ap, arith, length}
use Rattle.closure_model.specs.Derivations.{bound_node}
use Rattle.closure_model.proofs.NumberedItems.{pushed_more, pushed_all}
use Rattle.derivation_dag.proofs.plain.push_bounds.Goals as goal

pub loop-place-preserved : goal.loop-place-preserved
loop-place-preserved g c =
    let place = c.loop-place.place in
    let size = ap length c.bounds-bound-items.ensures.bounds in
    pushed_more bound_node (g.L.NodeList.nodes c.args.list.now) (g.L.NodeList.nodes c.loop-place.list) (g.L.NodeList.nodes c.push_below.new.self) c.bounds-bound-items.result.now c.args.net.now.bounds place c.bound-item.result c.bound_node.result
    c.bounds-bound-items.ensures.bounds (omega arith) c.loop-place.invariant (c.bound_node.ensures ∙ ap (λ b. bound_node (place, b)) c.bound-item.is) c.in_ok-push_below.ensures.1

pub returns : goal.returns
returns g c =
    let size = ap length c.bounds-bound-items.ensures.bounds in
    pushed_all bound_node (g.L.NodeList.nodes c.args.list.now) (g.L.NodeList.nodes c.loop-place.list) c.args.net.now.bounds c.loop-place.place (omega (arith, c.loop-place.auto.place-end)) c.loop-place.invariant
