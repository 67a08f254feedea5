use Rattle.labelled_graph.proofs.ListedLemmas.{entries_listed, ordinary_entries_listed}
use Rattle.labelled_graph.proofs.table.Table.entries.Goals as goal

pub returns-clause-row : goal.returns-clause-row
returns-clause-row c = entries_listed c.self.inside.rows.items c.self.inside.activations.items c.self.invariant c.args.self.now c.self.view_is c.args.to c.requires c.index-row.result.now c.index-row.ensures c.entries.result.now
    c.entries.ensures

pub returns-clause-ordinary : goal.returns-clause-ordinary
returns-clause-ordinary c = ordinary_entries_listed c.self.inside.rows.items c.self.inside.activations.items c.self.invariant c.args.self.now c.self.view_is c.args.to c.requires c.index-row.result.now c.index-row.ensures
    c.entries.result.now c.entries.ensures
