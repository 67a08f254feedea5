use Rattle.std.proofs.Common.{ap, arith, length}
use Rattle.closure_model.specs.Derivations.{link_node}
use Rattle.closure_model.proofs.NumberedItems.{pushed_more, pushed_all}
use Rattle.derivation_dag.proofs.plain.push_links.Goals as goal

pub loop-place-preserved : goal.loop-place-preserved
loop-place-preserved g c =
    let place = c.loop-place.place in
    let size = ap length c.links-link-items.ensures.links in
    pushed_more link_node (g.L.NodeList.nodes c.args.list.now) (g.L.NodeList.nodes c.loop-place.list) (g.L.NodeList.nodes c.push_below.new.self) c.links-link-items.result.now c.args.net.now.links place _ c.link_node.result
    c.links-link-items.ensures.links (omega arith) c.loop-place.invariant c.link_node.ensures c.in_ok-push_below.ensures.1

pub returns : goal.returns
returns g c =
    let size = ap length c.links-link-items.ensures.links in
    pushed_all link_node (g.L.NodeList.nodes c.args.list.now) (g.L.NodeList.nodes c.loop-place.list) c.args.net.now.links c.loop-place.place (omega (arith, c.loop-place.auto.place-end)) c.loop-place.invariant
