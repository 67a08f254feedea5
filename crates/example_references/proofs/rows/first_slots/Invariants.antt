use Rattle.std.proofs.Common.{◌≡◌, map}
use Rattle.std.specs.List.{flat_map, range_with_len}
use Rattle.closure_model.specs.Keys.{keys_between}
use Rattle.closure_model.specs.ReferenceRow.{first_slot}
use Rattle.example_references.specs.NodeTables.{table_in}
use Rattle.example_references.proofs.rows.first_slots.Given as goal

abbrev pub invariant-loop-from : goal.invariant-loop-from
invariant-loop-from l = l.slots.items ≡ map (first_slot (table_in l.net l.nodes)) (flat_map (keys_between (table_in l.net l.nodes).shape l.target) (map (λ k. record { 0 = k }) (range_with_len 0 l.from)))
