use Rattle.std.proofs.Common.{◌∙◌, ap, sym, subst, map, take}
use Rattle.net_model.specs.Rules.{bound_edge}
use Rattle.labelled_graph.specs.Changes.{IsEdgeFor}
use Rattle.labelled_graph.proofs.LoopLemmas.{edge_still_for}
use Rattle.labelled_graph.proofs.table.Table.lower_to_bounds.Goals as goal

pub lower_to-requires-clause-key : goal.lower_to-requires-clause-key
lower_to-requires-clause-key c =
    let before : IsEdgeFor c.args.self.now.shape c.bound_edge.result =
    subst (IsEdgeFor c.args.self.now.shape) (ap bound_edge (sym c.bound-item.is) ∙ sym c.bound_edge.ensures) (c.requires c.loop-bound.bound-index c.bound-item.result c.loop-bound-test.true) in
    (edge_still_for c.args.self.now c.loop-bound.self (map bound_edge (take c.loop-bound.bound-index c.args.bounds.now)) c.bound_edge.result c.loop-bound.invariant before).0
