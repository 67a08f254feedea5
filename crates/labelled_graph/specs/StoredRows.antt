-- How a table is stored: a row for each point.
use Rattle.std.specs.Prelude.{◌≡◌, ◌<◌, ℕ, ℤ, List, length, Option, Some, slice_index_or}
use Rattle.std.specs.FinMap as map_of
use Rattle.std.specs.List.{All, filter_map}
use Rattle.std.specs.Option.{option_map}
use Rattle.net_model.specs.declared.ids.PointId.{PointId}
use Rattle.closure_model.specs.Keys.{Key, Shape, all_keys, IsKey}
use Rattle.closure_model.specs.Tables.{Graph, IsGraph}
use Rattle.labelled_graph.specs.Rows.{TargetRow, no_row}
use Rattle.labelled_graph.specs.declared.table.Table.TheInside.{Inside}

-- the points and links that rows are for
abbrev pub shape_with : List TargetRow → List PointId → Shape
shape_with rows activations = record { points = length rows; activations = activations }

-- what rows have for a key
abbrev pub at_key : List TargetRow → Key → Option ℤ
at_key rows key = map_of.get (slice_index_or rows key.to.0 no_row).weights key

-- the entries of the keys at which a function gives a weight
abbrev pub entries_of : (Key → Option ℤ) → List Key → List (Key × ℤ)
entries_of weight keys = filter_map (λ key. option_map (λ w. (key, w)) (weight key)) keys

-- the table of rows
abbrev pub graph_with : List TargetRow → List PointId → Graph
graph_with rows activations = record {
  shape = shape_with rows activations;
  weights = map_of.from_sorted (entries_of (at_key rows) (all_keys (shape_with rows activations)));
}

-- each point has its row, whose edges end in it and are of keys that there are, and the table is sound
pub record AreStored (rows : List TargetRow) (activations : List PointId) : Type 0 where
  pub targets : (k : ℕ) (d : TargetRow) → k < length rows → (slice_index_or rows k d).to.0 ≡ k
  pub keys : All (λ row. (key : Key) (weight : ℤ) → map_of.get row.weights key ≡ Some weight → (key.to ≡ row.to) × IsKey (shape_with rows activations) key) rows
  pub sound : IsGraph (graph_with rows activations)

-- the table that is stored
abbrev pub graph_of : Inside → Graph
graph_of table = graph_with table.rows.items table.activations.items

-- what holds of every stored table
abbrev pub IsStoredTable : Inside → Type 0
IsStoredTable table = AreStored table.rows.items table.activations.items
