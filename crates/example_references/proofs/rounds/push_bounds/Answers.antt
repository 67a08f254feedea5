use Rattle.std.proofs.Common.{◌≡◌, ◌∙◌, ap, arith, length}
use Rattle.closure_model.specs.Derivations.{bound_node}
use Rattle.closure_model.specs.declared.derivation.Node.{Node}
use Rattle.closure_model.specs.declared.derivation.Rule.TheVariants as by_rule
use Rattle.closure_model.proofs.NumberedItems.{pushed_more, pushed_all}
use Rattle.example_references.proofs.rounds.push_bounds.Goals as goal

pub loop-place-preserved : goal.loop-place-preserved
loop-place-preserved c =
    let place = c.loop-place.place in
    let bound = c.bound-item.result in
    let size = ap length c.bounds-bound-items.ensures.bounds in
    let node : Node = record { rule = by_rule.Bound (record { 0 = place }); edge = c.bound_edge-edge.result } in
    let made : node ≡ bound_node (place, bound) = λ i. record { rule = by_rule.Bound (record { 0 = place }); edge = c.bound_edge-edge.ensures i } in
    pushed_more bound_node c.args.nodes.now.items c.loop-place.nodes.items c.push.new.self.items c.bounds-bound-items.result.now c.args.net.now.bounds place bound node
    c.bounds-bound-items.ensures.bounds (omega arith) c.loop-place.invariant (made ∙ ap (λ b. bound_node (place, b)) c.bound-item.is) c.in_ok-push.ensures.items

pub returns : goal.returns
returns c =
    let size = ap length c.bounds-bound-items.ensures.bounds in
    pushed_all bound_node c.args.nodes.now.items c.loop-place.nodes.items c.args.net.now.bounds c.loop-place.place (omega (arith, c.loop-place.auto.place-end)) c.loop-place.invariant
