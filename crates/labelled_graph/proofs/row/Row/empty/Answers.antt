use Rattle.labelled_graph.proofs.RowLemmas.{empty_rises}
use Rattle.labelled_graph.proofs.row.Row.empty.Goals as goal

pub returns : goal.returns
returns c = empty_rises c.args.target c.new.result.items c.new.ensures.items
