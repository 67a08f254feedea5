-- A row that is made after the delta edges, and what is relaxed while it is made.
use Rattle.std.specs.Prelude.{◌≡◌, ◌&&◌, ◌<◌, ℕ, not, Bool, List, length, if◌then◌else◌}
use Rattle.std.specs.List.{flat_map}
use Rattle.net_model.specs.Network.{Plan, IsPlan, IsPoint}
use Rattle.net_model.specs.Rules.{is_ordinary, meet}
use Rattle.net_model.specs.declared.ids.PointId.{PointId}
use Rattle.net_model.specs.declared.part.Edge.{Edge}
use Rattle.closure_model.specs.ReferenceRow.{from_first, consequences, first_slots, HasWeightsWithin}
use Rattle.closure_model.specs.Tables.{Graph, IsFor, IsGraph, has_at_most}
use Rattle.closure_model.specs.declared.rows.Made.{Made}
use Rattle.closure_model.specs.declared.rows.Slot.{Slot}
use Rattle.closure_model.specs.DeltaEdges.{delta_at, AreOfTable, IsSaturatedBut}
use Rattle.reduction_rules.specs.Applies.{joined}
use Rattle.back_propagation.specs.SlotPlaces.{width_of}

-- an ordinary edge that ends where another begins
abbrev pub goes_before : Edge → Edge → Bool
goes_before first edge = is_ordinary first && meet first edge

-- the candidate over an edge before one of a row, and that one, is below what a table has
abbrev pub improves : Graph → Edge → Edge → Bool
improves table edge first = goes_before first edge && not (has_at_most table (joined first edge))

-- the slots of the row of a target as a table has it, so many for each source
pub record IsFirstRow (table : Graph) (to : PointId) (slots : List Slot) (width : ℕ) : Type 0 where
  pub sound : IsGraph table
  pub target : to.0 < table.shape.points
  pub first : slots ≡ first_slots table to
  pub wide : width ≡ width_of table.shape to

-- one list for each point, of edges of the table
pub record AreListsOfEdges (table : Graph) (firsts : List (List Edge)) : Type 0 where
  pub count : length firsts ≡ table.shape.points
  pub edges : AreOfTable table firsts

-- the row of a target can be made after the delta edges alone: the table is one of the network, with weights from -M to M; the delta edges are ordinary edges
-- of it, a list for each point in which they end; and whatever follows from the row is saturated except what follows with one of them
pub record CanMakeRowAfter (net : Plan) (table : Graph) (to : PointId) (firsts : List (List Edge)) : Type 0 where
  pub fits : IsFor net table
  pub target : IsPoint net to
  pub within : HasWeightsWithin net table
  pub count : length firsts ≡ length net.points
  pub delta : AreOfTable table firsts
  pub met : IsSaturatedBut net table to firsts

-- a row against a table that is saturated except for delta edges, which are edges of the table
pub record IsDeltaRow (net : Plan) (table : Graph) (to : PointId) (firsts : List (List Edge)) : Type 0 where
  pub plan : IsPlan net
  pub fits : IsFor net table
  pub sound : IsGraph table
  pub target : IsPoint net to
  pub within : HasWeightsWithin net table
  pub delta : AreListsOfEdges table firsts
  pub met : IsSaturatedBut net table to firsts

-- what is relaxed when a slot is settled: all that follows if it improved, else what follows with the delta edges
abbrev pub what_follows : Plan → Graph → List (List Edge) → Bool → Edge → List Made
what_follows net table delta improved edge = if improved then consequences net table edge else flat_map (from_first edge) (delta_at delta edge.from)
