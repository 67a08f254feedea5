use Rattle.std.proofs.Common.{◌≡◌, map}
use Rattle.std.specs.List.{filter_map, range_with_len}
use Rattle.example_references.specs.NodeTables.{table_in}
use Rattle.example_references.specs.RowParts.{ordinary_at}
use Rattle.example_references.proofs.consequence_lists.ordinary_into.Given as goal

abbrev pub invariant-loop-from : goal.invariant-loop-from
invariant-loop-from l = l.edges.items ≡ filter_map (ordinary_at (table_in l.net l.nodes) l.to) (map (λ k. record { 0 = k }) (range_with_len 0 l.from))
