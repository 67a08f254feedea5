use Rattle.std.proofs.Common.{ap, arith, length}
use Rattle.closure_model.specs.Derivations.{link_node}
use Rattle.closure_model.specs.declared.derivation.Node.{Node}
use Rattle.closure_model.specs.declared.derivation.Rule.TheVariants as by_rule
use Rattle.closure_model.proofs.NumberedItems.{pushed_more, pushed_all}
use Rattle.example_references.proofs.rounds.push_links.Goals as goal

pub loop-place-preserved : goal.loop-place-preserved
loop-place-preserved c =
    let place = c.loop-place.place in
    let size = ap length c.links-link-items.ensures.links in
    let node : Node = record { rule = by_rule.Link (record { 0 = place }); edge = c.link_edge-edge.result } in
    pushed_more link_node c.args.nodes.now.items c.loop-place.nodes.items c.push.new.self.items c.links-link-items.result.now c.args.net.now.links place _ node
    c.links-link-items.ensures.links (omega arith) c.loop-place.invariant (λ i. record { rule = by_rule.Link (record { 0 = place }); edge = c.link_edge-edge.ensures i }) c.in_ok-push.ensures.items

pub returns : goal.returns
returns c =
    let size = ap length c.links-link-items.ensures.links in
    pushed_all link_node c.args.nodes.now.items c.loop-place.nodes.items c.args.net.now.links c.loop-place.place (omega (arith, c.loop-place.auto.place-end)) c.loop-place.invariant
