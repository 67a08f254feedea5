use Rattle.labelled_graph.proofs.RowLemmas.{entries_seen}
use Rattle.labelled_graph.proofs.row.Row.entries.Goals as goal

pub returns : goal.returns
returns c = entries_seen c.self.inside.target c.self.inside.entries.items c.args.self.now c.self.view_is c.self.invariant.rises c.as_slice.result.now c.as_slice.ensures.value
