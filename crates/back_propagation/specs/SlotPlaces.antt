-- What is known of a row and of an edge of it whose consequences are relaxed.
use Rattle.std.specs.Prelude.{◌≡◌, ℕ, ◌+◌, ◌*◌, true, List, [], length, map, slice_get, Option, Some, None, if◌then◌else◌}
use Rattle.net_model.specs.Network.{Plan, IsPlan}
use Rattle.net_model.specs.declared.ids.LinkId.{LinkId}
use Rattle.net_model.specs.declared.ids.PointId.{PointId}
use Rattle.net_model.specs.declared.part.Edge.{Edge}
use Rattle.closure_model.specs.Keys.{Key, Shape, key_of, IsKey, labels_at, row_keys}
use Rattle.closure_model.specs.ReferenceRow.{is_slot_of, from_first, HasWeightsWithin, IsWithin}
use Rattle.closure_model.specs.Tables.{Graph, IsFor, IsGraph}
use Rattle.labelled_graph.specs.Entries.{edge_into, is_ordinary}
use Rattle.labelled_graph.specs.declared.entry.Entry.{Entry}
use Rattle.closure_model.specs.declared.rows.Made.{Made}
use Rattle.closure_model.specs.declared.rows.Slot.{Slot}

-- the place of the slot of a source and a column, if each source has so many slots
abbrev pub place_in_slots : ℕ → PointId → ℕ → ℕ
place_in_slots width from column = from.0 * width + column

-- how many slots each source has: one for ordinary edges, and one for each label
abbrev pub width_of : Shape → PointId → ℕ
width_of shape to = length (labels_at shape to) + 1

-- a label stands in a column: ordinary edges in the first, then a column for each label
abbrev pub IsColumnOf : List LinkId → Option LinkId → ℕ → Type 0
IsColumnOf labels None column = column ≡ 0
IsColumnOf labels (Some label) column = (k : ℕ) × (column ≡ k + 1) × (slice_get labels k ≡ Some label)

-- a label stands in a column of the row of a target
abbrev pub HasColumn : Shape → PointId → Option LinkId → ℕ → Type 0
HasColumn shape to label column = IsColumnOf (labels_at shape to) label column

-- the key of a slot of the row of a target
abbrev pub slot_key : PointId → Slot → Key
slot_key to slot = record { to = to; from = slot.from; label = slot.label }

-- the slot at a place is the only one of the key of an edge
pub record IsSlotAt (slots : List Slot) (place : ℕ) (edge : Edge) : Type 0 where
  pub slot : Slot
  pub here : slice_get slots place ≡ Some slot
  pub of_key : is_slot_of edge slot ≡ true
  pub only : (other : ℕ) (one : Slot) → slice_get slots other ≡ Some one → is_slot_of edge one ≡ true → other ≡ place

-- what follows with the edge of an entry before an edge, if it is an ordinary one
abbrev pub after_entry : Edge → Entry → List Made
after_entry edge entry = if is_ordinary entry then from_first edge (edge_into edge.from entry) else []

-- a row against a table: its slots are those of the keys of the target, so many for each source
pub record IsRowAgainst (net : Plan) (table : Graph) (to : PointId) (slots : List Slot) (width : ℕ) : Type 0 where
  pub plan : IsPlan net
  pub fits : IsFor net table
  pub sound : IsGraph table
  pub within : HasWeightsWithin net table
  pub keys : map (slot_key to) slots ≡ row_keys table.shape to
  pub wide : width ≡ width_of table.shape to

-- an edge of the row, whose label stands in a column
pub record IsOfRow (net : Plan) (table : Graph) (to : PointId) (edge : Edge) (column : ℕ) : Type 0 where
  pub ends : edge.to ≡ to
  pub key : IsKey table.shape (key_of edge)
  pub within : IsWithin net edge.weight
  pub in_column : HasColumn table.shape to edge.label column
