use Rattle.std.proofs.Common.{◌≡◌, map, take}
use Rattle.std.specs.List.{All}
use Rattle.net_model.specs.declared.ids.PointId.{PointId}
use Rattle.closure_model.specs.declared.rows.Made.{Made}
use Rattle.labelled_graph.specs.Entries.{edge_into}
use Rattle.labelled_graph.specs.MergedRows.{edges_made}
use Rattle.labelled_graph.proofs.ordered_entries.entries_of.Given as goal

abbrev pub invariant-loop-one : goal.invariant-loop-one
invariant-loop-one l = (to : PointId) → All (λ (one : Made). one.edge.to ≡ to) l.made → map (edge_into to) l.entries.items ≡ edges_made (take l.one-index l.made)
