use Rattle.std.proofs.Common.{◌≡◌, map}
use Rattle.std.specs.List.{flat_map, range_with_len}
use Rattle.closure_model.specs.ReferenceRow.{reference_row}
use Rattle.example_references.specs.NodeTables.{table_in}
use Rattle.example_references.proofs.rounds.round_made.Given as goal

abbrev pub invariant-loop-target : goal.invariant-loop-target
invariant-loop-target l = l.made.items ≡ flat_map (reference_row l.net (table_in l.net l.nodes)) (map (λ k. record { 0 = k }) (range_with_len 0 l.target))
