use Rattle.std.proofs.Common.{◌≡◌, replicate, rules}
use Rattle.loop_finder.proofs.PlacementLemmas.{counts_none, counts_more, counts_low}
use Rattle.loop_finder.proofs.open_edges.edge_counts.Goals as goal

pub loop-to-init : goal.loop-to-init
loop-to-init c = let none : c.in_ok-counts.counts.items ≡ replicate c.args.points 0 = search rules in counts_none c.args.table.now c.args.points c.in_ok-counts.counts.items c.requires none

pub count_edges-requires-clause-low : goal.count_edges-requires-clause-low
count_edges-requires-clause-low c = counts_low c.args.table.now c.loop-to.to c.loop-to.counts.items c.loop-to.invariant

pub loop-to-preserved : goal.loop-to-preserved
loop-to-preserved c = counts_more c.args.table.now c.loop-to.to c.loop-to.counts.items c.count_edges.new.counts.items c.loop-to.invariant c.count_edges.ensures
