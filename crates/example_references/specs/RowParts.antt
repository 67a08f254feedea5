-- Parts of a row.
use Rattle.std.specs.Prelude.{Option, if◌then◌else◌}
use Rattle.std.specs.Option.{option_map}
use Rattle.net_model.specs.declared.ids.PointId.{PointId}
use Rattle.net_model.specs.declared.part.Edge.{Edge}
use Rattle.closure_model.specs.Keys.{edge_of, ordinary_key}
use Rattle.closure_model.specs.ReferenceRow.{is_slot_of, taken}
use Rattle.closure_model.specs.Tables.{Graph, weight_of}
use Rattle.closure_model.specs.declared.rows.Made.{Made}
use Rattle.closure_model.specs.declared.rows.Slot.{Slot}

-- a slot after its row was relaxed with an edge
abbrev pub relaxed_to : Made → Slot → Slot
relaxed_to made slot = if is_slot_of made.edge slot then taken made slot else slot

-- the ordinary edge from a point to another, if a table has one
abbrev pub ordinary_at : Graph → (to from : PointId) → Option Edge
ordinary_at table to from = option_map (edge_of (ordinary_key from to)) (weight_of table (ordinary_key from to))
