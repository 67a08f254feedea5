use Rattle.std.proofs.Common.{ℕ, ap, length, arith}
use Rattle.net_model.specs.declared.part.Link.{Link}
use Rattle.closure_model.specs.Derivations.{link_node}
use Rattle.support_records.specs.Moves.{moves_of}
use Rattle.support_records.specs.NewNodes.{is_link_new}
use Rattle.support_records.proofs.NewNodeLemmas.{newly_more, newly_all}
use Rattle.support_records.proofs.new_base.push_new_links.Goals as goal

pub loop-place-preserved : goal.loop-place-preserved
loop-place-preserved c =
    let moves = c.args.moves.now in
    let size = ap length c.links-link-items.ensures.links in
    newly_more (λ (e : ℕ × Link). is_link_new (moves_of moves) moves.points.old.now moves.points.new.now e.1) link_node c.args.nodes.now.items c.loop-place.nodes.items c.push_if.new.nodes.items c.links-link-items.result.now
    moves.points.new.now.links c.loop-place.place _ c.link_node-node.result c.is_link_new.result c.links-link-items.ensures.links (omega (arith, size, c.loop-place-test.true)) c.loop-place.invariant
    c.link_node-node.ensures c.is_link_new.ensures c.in_ok-push_if.ensures

pub returns : goal.returns
returns c =
    let moves = c.args.moves.now in
    let size = ap length c.links-link-items.ensures.links in
    newly_all (λ (e : ℕ × Link). is_link_new (moves_of moves) moves.points.old.now moves.points.new.now e.1) link_node c.args.nodes.now.items c.loop-place.nodes.items moves.points.new.now.links c.loop-place.place
    (omega (arith, size, c.loop-place-test.false)) (omega (arith, size, c.loop-place.auto.place-end)) c.loop-place.invariant
