-- What a round leaves to the rows of the next one: after it an ordinary edge is a delta edge unless the table before had its key at a
-- weight that is no greater, counting weights below 0 as 0; and whatever follows without a delta edge as first premise is saturated.
use Rattle.std.specs.Prelude.{◌≡◌, ℤ, ◌≤ℤ◌, ◌<ℤ◌, pos, Bool, false, List, [], filter, slice_index_or, Some}
use Rattle.std.specs.Int.{int_max}
use Rattle.std.specs.List.{Contains, flat_map, list_any}
use Rattle.net_model.specs.Network.{Plan, IsPlan}
use Rattle.net_model.specs.declared.ids.PointId.{PointId}
use Rattle.net_model.specs.declared.part.Edge.{Edge}
use Rattle.closure_model.specs.Keys.{key_of}
use Rattle.closure_model.specs.PrunedRows.{IsThinned}
use Rattle.closure_model.specs.ReferenceRow.{from_first, ordinary_into, consequences, reference_row, with_made}
use Rattle.closure_model.specs.ReferenceRound.{is_same_key, round_made}
use Rattle.closure_model.specs.Tables.{Graph, weight_of, HasEdge, IsFor, IsGraph}
use Rattle.closure_model.specs.declared.rows.Made.{Made}

-- the delta edges that end in a point, of lists by the points in which edges end
abbrev pub delta_at : List (List Edge) → PointId → List Edge
delta_at delta point = slice_index_or delta point.0 []

-- delta edges are edges of the table
abbrev pub AreOfTable : Graph → List (List Edge) → Type 0
AreOfTable table delta = (point : PointId) (first : Edge) → Contains (delta_at delta point) first → HasEdge table first

-- the row of a target is saturated but for delta edges: whatever follows from an edge of the table that ends in the target, the table has
-- at a weight that is no greater, but for what follows with a delta edge as first premise
abbrev pub IsSaturatedBut : Plan → Graph → PointId → List (List Edge) → Type 0
IsSaturatedBut net table to delta = (edge : Edge) → HasEdge table edge → edge.to ≡ to
    → IsThinned table (consequences net table edge) (flat_map (from_first edge) (delta_at delta edge.from))

-- as a first premise an edge gives nothing that it did not give before a round: the table had its key then at a weight that is no
-- greater, where weights below 0 count as 0
pub record WasThere (before : Graph) (first : Edge) : Type 0 where
  pub weight : ℤ
  pub has : weight_of before (key_of first) ≡ Some weight
  pub same : int_max weight (pos 0) ≤ℤ int_max first.weight (pos 0)

-- an edge is of the key of one that improved
abbrev pub has_improved : List Made → Edge → Bool
has_improved made edge = list_any (λ (one : Made). is_same_key one.edge edge) made

-- the delta edges after a round, by the points in which they end: the ordinary edges into each point, in their order, without some that
-- were there
pub record AreDeltaAfter (before now : Graph) (delta : List (List Edge)) : Type 0 where
  pub is_delta : Edge → Bool
  pub was_there : (first : Edge) → HasEdge now first → is_delta first ≡ false → WasThere before first
  pub lists : (point : PointId) → delta_at delta point ≡ filter is_delta (ordinary_into now point)

-- An edge that did not improve in a round was there before.
abbrev pub UnimprovedWereThere : Type 0
UnimprovedWereThere = (net : Plan) (before : Graph) (first : Edge) → HasEdge (with_made before (round_made net before)) first
    → has_improved (round_made net before) first ≡ false → WasThere before first

-- After a round every row is saturated but for what follows with a delta edge as first premise.
abbrev pub RowsAreSaturatedAfterARound : Type 0
RowsAreSaturatedAfterARound =
    (net : Plan) (before : Graph) (delta : List (List Edge)) → IsPlan net → IsFor net before → IsGraph before
    → AreDeltaAfter before (with_made before (round_made net before)) delta
    → AreOfTable (with_made before (round_made net before)) delta × ((to : PointId) → IsSaturatedBut net (with_made before (round_made net before)) to delta)

-- A row that is saturated but for delta edges as first premises makes nothing if no delta edge ends where a negative edge of the row
-- begins.
abbrev pub UnstaleRowsMakeNothing : Type 0
UnstaleRowsMakeNothing =
    (net : Plan) (table : Graph) (to : PointId) (delta : List (List Edge)) → IsPlan net → IsFor net table → IsGraph table → IsSaturatedBut net table to delta
    → ((edge : Edge) → HasEdge table edge → edge.to ≡ to → edge.weight <ℤ pos 0 → delta_at delta edge.from ≡ []) → reference_row net table to ≡ []
