use Rattle.std.proofs.Common.{◌∙◌}
use Rattle.labelled_graph.proofs.StoredLemmas.{reads_ordinary}
use Rattle.labelled_graph.proofs.table.Table.weight.Goals as goal

pub returns-clause-weight : goal.returns-clause-weight
returns-clause-weight c = c.get.ensures ∙ reads_ordinary c.self.inside.rows.items c.self.inside.activations.items c.self.invariant c.args.self.now c.self.view_is c.args.from c.args.to c.requires.from_point c.requires.to_point
    c.index-row.result.now c.index-row.ensures
