-- One link more.
use Rattle.edit_laws.specs.EditNumbers.{link_in}
use Rattle.support_records.proofs.MovesLemmas.{mapped_more}
use Rattle.support_records.proofs.moves.links_in.Goals as goal

pub loop-link-preserved : goal.loop-link-preserved
loop-link-preserved c =
    mapped_more (link_in c.args.points.now.old.now c.args.edit.now c.args.points.now.new.now) c.links-link-items.result.now c.args.points.now.old.now.links c.loop-link.link-index _ c.loop-link.links.items c.push.new.self.items
    c.link_in.result c.links-link-items.ensures.links c.loop-link-test.true c.loop-link.invariant c.link_in.ensures c.in_ok-push.ensures.items
