use Rattle.std.proofs.Common.{◌∙◌, ℕ, ap, sym, subst, map, take}
use Rattle.std.specs.List.{enumerate_from}
use Rattle.net_model.specs.Rules.{link_edge}
use Rattle.net_model.specs.declared.part.Link.{Link}
use Rattle.closure_model.specs.Tables.{lowered}
use Rattle.labelled_graph.specs.Changes.{IsEdgeFor}
use Rattle.labelled_graph.proofs.LoopLemmas.{edge_still_for, link_edge_for, links_lowered-more}
use Rattle.labelled_graph.proofs.table.Table.lower_to_links.Goals as goal

pub link_edge-requires : goal.link_edge-requires
link_edge-requires c = (link_edge_for c.args.self.now.shape c.args.links.now c.loop-place.place _ c.requires.sound c.loop-place-test.true).1

pub lower_to-requires-clause-key : goal.lower_to-requires-clause-key
lower_to-requires-clause-key c =
    let before : IsEdgeFor c.args.self.now.shape c.link_edge.result =
    subst (IsEdgeFor c.args.self.now.shape) (sym c.link_edge.ensures) (link_edge_for c.args.self.now.shape c.args.links.now c.loop-place.place _ c.requires.sound c.loop-place-test.true) in
    (edge_still_for c.args.self.now c.loop-place.self (map (λ (e : ℕ × Link). link_edge (record { 0 = e.0 }) e.1) (enumerate_from 0 (take c.loop-place.place c.args.links.now))) c.link_edge.result c.loop-place.invariant before).0

pub lower_to-requires-clause-weight : goal.lower_to-requires-clause-weight
lower_to-requires-clause-weight c =
    let before : IsEdgeFor c.args.self.now.shape c.link_edge.result =
    subst (IsEdgeFor c.args.self.now.shape) (sym c.link_edge.ensures) (link_edge_for c.args.self.now.shape c.args.links.now c.loop-place.place _ c.requires.sound c.loop-place-test.true) in
    before.1

pub loop-place-preserved : goal.loop-place-preserved
loop-place-preserved c =
    links_lowered-more c.args.self.now c.loop-place.self c.lower_to.new.self c.args.links.now c.loop-place.place _ c.loop-place-test.true c.loop-place.invariant (c.in_ok-lower_to.ensures.lowered.1
    ∙ ap (lowered c.loop-place.self) c.link_edge.ensures)
