use Rattle.std.proofs.Common.{◌∙◌, ℕ, ap, length, arith}
use Rattle.net_model.specs.declared.part.Bound.{Bound}
use Rattle.closure_model.specs.Derivations.{bound_node}
use Rattle.support_records.specs.Moves.{moves_of}
use Rattle.support_records.specs.NewNodes.{is_bound_new}
use Rattle.support_records.proofs.NewNodeLemmas.{newly_more, newly_all}
use Rattle.support_records.proofs.new_base.push_new_bounds.Goals as goal

pub loop-place-preserved : goal.loop-place-preserved
loop-place-preserved c =
    let moves = c.args.moves.now in
    let place = c.loop-place.place in
    let size = ap length c.bounds-bound-items.ensures.bounds in
    newly_more (λ (e : ℕ × Bound). is_bound_new (moves_of moves) moves.points.old.now e.1) bound_node c.args.nodes.now.items c.loop-place.nodes.items c.push_if.new.nodes.items c.bounds-bound-items.result.now moves.points.new.now.bounds
    place c.bound-item.result c.bound_node-node.result c.is_bound_new.result c.bounds-bound-items.ensures.bounds (omega (arith, size, c.loop-place-test.true)) c.loop-place.invariant
    (c.bound_node-node.ensures ∙ ap (λ b. bound_node (place, b)) c.bound-item.is) (c.is_bound_new.ensures ∙ ap (is_bound_new (moves_of moves) moves.points.old.now) c.bound-item.is) c.in_ok-push_if.ensures

pub returns : goal.returns
returns c =
    let moves = c.args.moves.now in
    let size = ap length c.bounds-bound-items.ensures.bounds in
    newly_all (λ (e : ℕ × Bound). is_bound_new (moves_of moves) moves.points.old.now e.1) bound_node c.args.nodes.now.items c.loop-place.nodes.items moves.points.new.now.bounds c.loop-place.place
    (omega (arith, size, c.loop-place-test.false)) (omega (arith, size, c.loop-place.auto.place-end)) c.loop-place.invariant
