-- Each source adds its ordinary edge.
use Rattle.example_references.specs.NodeTables.{table_in}
use Rattle.example_references.specs.RowParts.{ordinary_at}
use Rattle.example_references.proofs.RowFacts.{filtered_more}
use Rattle.example_references.proofs.consequence_lists.ordinary_into.Goals as goal

pub loop-from-preserved : goal.loop-from-preserved
loop-from-preserved c = filtered_more (ordinary_at (table_in c.args.net.now c.args.nodes.now) c.args.to) c.loop-from.from c.loop-from.edges.items c.push_ordinary.new.edges.items c.loop-from.invariant
    (c.in_ok-push_ordinary.ensures c.args.net.now)
