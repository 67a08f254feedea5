use Rattle.std.proofs.Common.{◌∙◌, ap}
use Rattle.std.proofs.lemmas.List.{take_all}
use Rattle.labelled_graph.specs.MergedRows.{edges_made}
use Rattle.labelled_graph.proofs.MergeLemmas.{entries_more}
use Rattle.labelled_graph.proofs.ordered_entries.entries_of.Goals as goal

pub loop-one-preserved : goal.loop-one-preserved
loop-one-preserved c to ends = entries_more to c.args.made.now c.loop-one.one-index _ c.loop-one.entries.items c.push.new.self.items c.of.result c.loop-one-test.true ends
    (c.loop-one.invariant to ends) c.of.ensures c.in_ok-push.ensures.items

pub returns : goal.returns
returns c to ends = c.loop-one.invariant to ends ∙ ap edges_made (take_all c.loop-one.one-index c.args.made.now c.loop-one-test.false)
