use Rattle.std.proofs.Common.{◌≡◌, ◌++◌, ◌∷◌, map, take}
use Rattle.net_model.specs.Network.{Plan}
use Rattle.closure_model.specs.Keys.{ordinary_key, labelled_key}
use Rattle.closure_model.specs.ReferenceRow.{first_slot}
use Rattle.example_references.specs.NodeTables.{table_in}
use Rattle.example_references.proofs.rows.push_slots.Given as goal

abbrev pub invariant-loop-label : goal.invariant-loop-label
invariant-loop-label l =
    (net : Plan) → l.slots.items ≡ l.fn.slots.items ++ (first_slot (table_in net l.nodes) (ordinary_key l.from l.fn.target) ∷ map (first_slot (table_in net l.nodes)) (map (labelled_key l.from l.fn.target) (take l.label-index l.labels)))
