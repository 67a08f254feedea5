-- How a table is stored: a row of words for each point in which ordinary edges end, and one for each label.
use Rattle.std.specs.Prelude.{◌≡◌, ℕ, ℤ, List, [], length, Option, Some, None}
use Rattle.std.specs.FinMap as map_of
use Rattle.std.specs.List.{All, slice_index_or}
use Rattle.net_model.specs.declared.ids.LinkId.{LinkId}
use Rattle.closure_model.specs.Keys.{Key, Shape, all_keys}
use Rattle.closure_model.specs.Tables.{Graph, IsGraph}
use Rattle.labelled_graph.specs.StoredRows.{entries_of}
use Rattle.network_closure.specs.declared.dense.DenseTable.TheInside.{Inside}

-- the points and links that it is for
abbrev pub shape_of : Inside → Shape
shape_of table = record { points = length table.ordinary.items; activations = table.activations.items }

-- what a place of rows has
abbrev pub dense_weight_at : List (List (Option ℤ)) → (row place : ℕ) → Option ℤ
dense_weight_at rows row place = slice_index_or (slice_index_or rows row []) place None

-- what the rows have for a label, if there is one
abbrev pub at_label : Inside → Key → Option LinkId → Option ℤ
at_label table key None = dense_weight_at table.ordinary.items key.to.0 key.from.0
at_label table key (Some label) = dense_weight_at table.labelled.items label.0 key.from.0

-- what the rows have for a key
abbrev pub dense_weight_at_key : Inside → Key → Option ℤ
dense_weight_at_key table key = at_label table key key.label

-- the table that is stored
abbrev pub dense_graph_of : Inside → Graph
dense_graph_of table = record { shape = shape_of table; weights = map_of.from_sorted (entries_of (dense_weight_at_key table) (all_keys (shape_of table))) }

-- every row has a place for each point, each link has a row, and the table is sound
pub record IsDense (table : Inside) : Type 0 where
  pub ordinary_rows : All (λ row. length row ≡ length table.ordinary.items) table.ordinary.items
  pub labelled_rows : All (λ row. length row ≡ length table.ordinary.items) table.labelled.items
  pub label_count : length table.labelled.items ≡ length table.activations.items
  pub sound : IsGraph (dense_graph_of table)
