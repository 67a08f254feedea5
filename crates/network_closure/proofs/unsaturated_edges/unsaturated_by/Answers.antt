use Rattle.network_closure.specs.Saturation.{IsUnsaturated}
use Rattle.network_closure.specs.RowTest.{SaturatesBefore, SaturatesUnlessBy}
use Rattle.network_closure.proofs.ConsequenceLemmas.{saturates_removal, saturates_over_links, match_met}
use Rattle.network_closure.proofs.unsaturated_edges.unsaturated_by.Goals as goal

pub returns-clause-saturates : goal.returns-clause-saturates
returns-clause-saturates c =
    match_met (SaturatesBefore c.args.is_order c.args.table.now c.args.edge.now) (SaturatesUnlessBy c.args.net.now c.args.is_order c.args.table.now c.args.edge.now) (IsUnsaturated c.args.net.now c.args.table.now)
    c.unsaturated_before.result
    (λ firsts. record {
      removal = saturates_removal c.args.net.now c.args.table.now c.args.edge.now c.without_label.result c.without_label.ensures.exact c.in_default.ensures;
      over_links = saturates_over_links c.args.net.now c.args.table.now c.args.edge.now c.over_link.result c.over_link.ensures c.in_default-unsaturated_given.ensures;
      firsts = firsts;
    }) c.unsaturated_before.ensures.saturates
