use Rattle.std.proofs.Common.{◌≡◌, take}
use Rattle.closure_model.specs.ReferenceRow.{with_made}
use Rattle.labelled_graph.proofs.table.Table.lower_each.Given as goal

abbrev pub invariant-loop-one : goal.invariant-loop-one
invariant-loop-one l = l.self ≡ with_made l.initial.self (take l.one-index l.made)
