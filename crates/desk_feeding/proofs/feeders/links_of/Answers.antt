use Rattle.std.proofs.Common.{◌∙◌, arith}
use Rattle.desk_feeding.proofs.FedLemmas.{all_more, links_more}
use Rattle.desk_feeding.proofs.feeders.links_of.Goals as goal

pub loop-point-preserved : goal.loop-point-preserved
loop-point-preserved c =
    let before = c.loop-point.invariant in
    let pushed = c.push_link-ends.ensures in
    record {
      all = all_more c.args.net.now c.args.points.now c.loop-point.point-index (record { 0 = 0 }) c.loop-point.all c.push_link-ends.result c.loop-point-test.true before.all pushed.ends;
      to = links_more c.args.net.now c.args.points.now c.loop-point.point-index (record { 0 = 0 }) c.loop-point.links.items c.push_link-ends.new.links.items c.loop-point-test.true before.to pushed.to;
      links = pushed.links;
      few = (let more = pushed.few in let few = before.few in omega (arith, more, few));
      spare_capacity = pushed.spare_capacity ∙ before.spare_capacity;
    }
