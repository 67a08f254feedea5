use Rattle.labelled_graph.proofs.ListedLemmas.{words_of}
use Rattle.labelled_graph.proofs.table.Table.words.Goals as goal

pub returns : goal.returns
returns c = words_of c.self.inside.rows.items c.self.inside.activations.items c.self.invariant c.args.self.now c.self.view_is c.args.to c.requires c.index-row.result.now c.index-row.ensures c.words.result.now c.words.ensures
