use Rattle.net_model.specs.declared.part.Link.{Link}
use Rattle.labelled_graph.proofs.LoopLemmas.{mapped_more}
use Rattle.labelled_graph.proofs.StoredLemmas.{empty_made}
use Rattle.labelled_graph.proofs.table.Table.without_edges.Goals as goal

pub loop-link-preserved : goal.loop-link-preserved
loop-link-preserved c =
    mapped_more (λ (link : Link). link.from) c.links-links.result.now c.loop-link.link-index _ c.loop-link-test.true c.loop-link.activations.items _ c.loop-link.invariant c.in_ok-push.ensures.items

pub invariant_of-result : goal.invariant_of-result
invariant_of-result c = (empty_made c.args.net.now c.points-points.ensures.sound c.points-points.result.now c.links-links.result.now c.loop-link.link-index c.points-points.ensures.points c.links-links.ensures.links c.loop-link-test.false
    c.in_ok-rows.rows.items c.loop-link.activations.items c.in_ok-rows.ensures c.loop-link.invariant).0

pub returns : goal.returns
returns c = (empty_made c.args.net.now c.points-points.ensures.sound c.points-points.result.now c.links-links.result.now c.loop-link.link-index c.points-points.ensures.points c.links-links.ensures.links c.loop-link-test.false
    c.in_ok-rows.rows.items c.loop-link.activations.items c.in_ok-rows.ensures c.loop-link.invariant).1
