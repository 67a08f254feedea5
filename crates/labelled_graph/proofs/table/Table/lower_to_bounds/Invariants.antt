use Rattle.std.proofs.Common.{◌≡◌, map, take, fold}
use Rattle.net_model.specs.Rules.{bound_edge}
use Rattle.closure_model.specs.Tables.{lowered}
use Rattle.labelled_graph.proofs.table.Table.lower_to_bounds.Given as goal

abbrev pub invariant-loop-bound : goal.invariant-loop-bound
invariant-loop-bound l = l.self ≡ fold lowered l.initial.self (map bound_edge (take l.bound-index l.bounds))
