-- The targets whose rows are made in a round.
use Rattle.std.specs.Prelude.{◌≡◌, ◌<◌, ◌&&◌, pos, int_lt, Bool, false, List, [], map}
use Rattle.std.specs.List.{All, AllPairs, Contains, list_any, slice_index_or}
use Rattle.net_model.specs.Network.{Plan}
use Rattle.net_model.specs.declared.ids.PointId.{PointId}
use Rattle.net_model.specs.declared.part.Edge.{Edge}
use Rattle.closure_model.specs.ReferenceRow.{reference_row}
use Rattle.closure_model.specs.RoundLaws.{IsStale}
use Rattle.closure_model.specs.Tables.{Graph, row_of}
use Rattle.back_propagation.specs.declared.full_rows.NewRow.{NewRow}
use Rattle.parallel_rounds.specs.Rows.{new_row}

-- points rise: each has a lower number than those after it
abbrev pub AreRisingPoints : List PointId → Type 0
AreRisingPoints points = AllPairs (λ (one other : PointId). one.0 < other.0) points

-- the points of a table that are stale after some points, rising
pub record AreStale (table : Graph) (changed targets : List PointId) : Type 0 where
  pub rise : AreRisingPoints targets
  pub points : All (λ (point : PointId). point.0 < table.shape.points) targets
  pub stale : All (IsStale table changed) targets
  pub whole : (point : PointId) → point.0 < table.shape.points → IsStale table changed point → Contains targets point

-- the rows of a round: those of some targets, rising; in the row of any other point nothing improves
pub record AreRowsOfRound (net : Plan) (table : Graph) (rows : List NewRow) : Type 0 where
  pub targets : List PointId
  pub rise : AreRisingPoints targets
  pub points : All (λ (point : PointId). point.0 < table.shape.points) targets
  pub rows_are : rows ≡ map (new_row net table) targets
  pub others : (point : PointId) → point.0 < table.shape.points → ¬ Contains targets point → reference_row net table point ≡ []

-- an edge is negative and begins in a marked point
abbrev pub reaches : List Bool → Edge → Bool
reaches marks edge = int_lt edge.weight (pos 0) && slice_index_or marks edge.from.0 false

-- a negative edge goes to a point from a marked one
abbrev pub is_reached : Graph → List Bool → PointId → Bool
is_reached table marks point = list_any (reaches marks) (row_of table point)
