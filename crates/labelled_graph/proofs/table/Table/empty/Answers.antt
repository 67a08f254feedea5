use Rattle.labelled_graph.proofs.StoredLemmas.{none_stored}
use Rattle.labelled_graph.proofs.table.Table.empty.Goals as goal

pub invariant_of-result : goal.invariant_of-result
invariant_of-result c = (none_stored c.new.result.items c.new-2.result.items c.new.ensures.items c.new-2.ensures.items).0

pub returns : goal.returns
returns c = (none_stored c.new.result.items c.new-2.result.items c.new.ensures.items c.new-2.ensures.items).1
