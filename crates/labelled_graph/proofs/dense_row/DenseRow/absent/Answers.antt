use Rattle.labelled_graph.proofs.WordLemmas.{absent_row}
use Rattle.labelled_graph.proofs.dense_row.DenseRow.absent.Goals as goal

pub returns : goal.returns
returns c = absent_row c.args.points c.in_ok-vec.field-0.items (c.in_ok-vec.ensures.items_if_clones_equal (λ y same. same))
