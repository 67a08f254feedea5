-- What is known of the last round.
use Rattle.std.specs.Prelude.{◌≡◌, ◌≢◌, ◌==◌, ℕ, Bool, not, true, false, pos, int_lt, Option, Some, None, List, [], length, map, filter, is_none, IsPermutation}
use Rattle.std.specs.List.{All, Contains}
use Rattle.std.specs.List.Sorted.{IsNonDecreasingBy}
use Rattle.net_model.specs.Network.{Plan, IsPoint}
use Rattle.net_model.specs.declared.ids.LinkId.{LinkId}
use Rattle.net_model.specs.declared.ids.PointId.{PointId}
use Rattle.net_model.specs.declared.part.Edge.{Edge}
use Rattle.closure_model.specs.DeltaEdges.{delta_at, AreOfTable, IsSaturatedBut}
use Rattle.std.specs.Option.{option_map_or}
use Rattle.closure_model.specs.Keys.{Key, ordinary_key}
use Rattle.closure_model.specs.Tables.{Graph, IsGraph, weight_of}
use Rattle.closure_model.specs.declared.rows.Made.{Made}
use Rattle.back_propagation.specs.declared.full_rows.NewRow.{NewRow}
use Rattle.parallel_rounds.specs.Targets.{AreRisingPoints}
use Rattle.parallel_rounds.specs.declared.last_round.LastRound.{LastRound}

-- the delta edges of a table, by the points in which they end: every row is saturated except for them
pub record IsDeltaFor (net : Plan) (table : Graph) (delta : List (List Edge)) : Type 0 where
  pub count : length delta ≡ length net.points
  pub of_table : AreOfTable table delta
  pub met : (to : PointId) → IsSaturatedBut net table to delta

-- if a round is informed, these are the delta edges of the table
abbrev pub CanUseDelta : Plan → Graph → Bool → List (List Edge) → Type 0
CanUseDelta net table informed delta = informed ≡ true → IsDeltaFor net table delta

-- what improved in the last round, against the table after it: the points in whose rows an edge did, rising, and the delta edges, which all end in one of these
pub record IsLastRound (net : Plan) (table : Graph) (last : LastRound) : Type 0 where
  pub informed : IsDeltaFor net table last.delta.items
  pub rise : AreRisingPoints last.changed.items
  pub points : All (IsPoint net) last.changed.items
  pub others : (point : PointId) → ¬ Contains last.changed.items point → delta_at last.delta.items point ≡ []

-- a sound table for so many points
pub record IsTableFor (points : ℕ) (table : Graph) : Type 0 where
  pub count : points ≡ table.shape.points
  pub sound : IsGraph table

-- the ordinary edges among those that improved
abbrev pub ordinary_made : List Made → List Edge
ordinary_made made = filter (λ (edge : Edge). is_none edge.label) (map (λ (one : Made). one.edge) made)

-- edges are those ordinary ones that improved, by the points in which they begin
pub record AreImprovedInOrder (made : List Made) (edges : List Edge) : Type 0 where
  pub same : IsPermutation (ordinary_made made) edges
  pub rise : IsNonDecreasingBy (λ (edge : Edge). edge.from.0) edges

-- a key has a weight of 0 or less
abbrev pub is_low : Graph → Key → Bool
is_low table key = option_map_or (λ weight. int_lt weight (pos 1)) (weight_of table key) false

-- before a round the key of an ordinary edge had a weight of 0 or less: as a first premise it gives nothing then that it did not give before
abbrev pub was_low_by : Graph → Edge → Option LinkId → Bool
was_low_by before edge None = is_low before (ordinary_key edge.from edge.to)
was_low_by before edge (Some label) = false

-- the same by the edge alone
abbrev pub was_low : Graph → Edge → Bool
was_low before edge = was_low_by before edge edge.label

-- edges are those ordinary ones that improved and whose keys had no weight or one above 0, by the points in which they begin
pub record AreDeltaIn (before : Graph) (made : List Made) (edges : List Edge) : Type 0 where
  pub all : List Edge
  pub in_order : AreImprovedInOrder made all
  pub kept : edges ≡ filter (λ edge. not (was_low before edge)) all

-- lists of edges by the points in which they end are the delta edges among those that improved in some rows
pub record AreListed (before : Graph) (rows : List NewRow) (delta : List (List Edge)) : Type 0 where
  pub here : (row : NewRow) → Contains rows row → AreDeltaIn before row.made (delta_at delta row.target)
  pub others : (point : PointId) → ((row : NewRow) → Contains rows row → row.target ≢ point) → delta_at delta point ≡ []

-- the targets of the rows in which an edge improved
abbrev pub changed_in : List NewRow → List PointId
changed_in rows = map (λ (row : NewRow). row.target) (filter (λ (row : NewRow). not (length row.made == 0)) rows)
