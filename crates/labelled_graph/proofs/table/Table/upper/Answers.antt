use Rattle.std.proofs.Common.{◌∙◌}
use Rattle.labelled_graph.proofs.StoredLemmas.{reads_labelled}
use Rattle.labelled_graph.proofs.table.Table.upper.Goals as goal

pub returns-clause-weight : goal.returns-clause-weight
returns-clause-weight c = λ to begins. c.get.ensures ∙ reads_labelled c.self.inside.rows.items c.self.inside.activations.items c.self.invariant c.args.self.now c.self.view_is c.args.from to c.index-to.result.now c.args.link
    c.requires.from_point c.requires.link begins c.index-to.ensures c.index-row.result.now c.index-row.ensures
