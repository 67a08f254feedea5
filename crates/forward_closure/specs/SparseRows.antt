-- The rows of a table as lists of sources.
use Rattle.std.specs.Prelude.{◌≡◌, ◌<◌, pos, ◌≤ℤ◌, int_lt, List, length, Option, None, Some, replicate, []}
use Rattle.std.specs.Prelude.{if◌then◌else◌}
use Rattle.std.specs.List.{All, Contains}
use Rattle.net_model.specs.Network.{Plan}
use Rattle.net_model.specs.declared.ids.LinkId.{LinkId}
use Rattle.net_model.specs.declared.ids.PointId.{PointId}
use Rattle.net_model.specs.declared.part.Edge.{Edge}
use Rattle.closure_model.specs.Tables.{Graph, HasEdge}
use Rattle.labelled_graph.specs.Words.{FitsWord}
use Rattle.forward_closure.specs.Sources.{source_of, edge_from, list_at, added_at}
use Rattle.forward_closure.specs.declared.source.Source.{Source}
use Rattle.forward_closure.specs.declared.sparse_rows.SparseRows.{SparseRows}

-- the rows without edges
abbrev pub rows_without_edges : Plan → SparseRows
rows_without_edges net = record {
  firsts = replicate (length net.points) [];
  negative = replicate (length net.points) [];
  labelled = replicate (length net.links) [];
}

-- there is a row for each target and each label
pub record HaveRowsFor (net : Plan) (rows : SparseRows) : Type 0 where
  pub firsts : length rows.firsts ≡ length net.points
  pub negative : length rows.negative ≡ length net.points
  pub labelled : length rows.labelled ≡ length net.links

-- the list in which an edge of a label stands
abbrev pub list_for : SparseRows → Edge → Option LinkId → List Source
list_for rows edge None = if int_lt edge.weight (pos 0) then list_at rows.negative edge.to.0 else list_at rows.firsts edge.to.0
list_for rows edge (Some label) = list_at rows.labelled label.0

-- an edge stands in its row
abbrev pub StandsInRow : SparseRows → Edge → Type 0
StandsInRow rows edge = Contains (list_for rows edge edge.label) (source_of edge)

-- the rows with one more edge, of a label
abbrev pub rows_with : SparseRows → Edge → Option LinkId → SparseRows
rows_with rows edge None = if int_lt edge.weight (pos 0)
    then record rows { negative = added_at rows.negative edge.to.0 (source_of edge) }
    else record rows { firsts = added_at rows.firsts edge.to.0 (source_of edge) }
rows_with rows edge (Some label) = record rows { labelled = added_at rows.labelled label.0 (source_of edge) }

-- there is a row for an edge, and a source holds its weight
pub record HaveRoomFor (rows : SparseRows) (edge : Edge) : Type 0 where
  pub firsts : edge.to.0 < length rows.firsts
  pub negative : edge.to.0 < length rows.negative
  pub labelled : (label : LinkId) → edge.label ≡ Some label → label.0 < length rows.labelled
  pub weight : FitsWord edge.weight

-- each source is of an edge of a table, in its row; no weight of the first edges is negative
pub record AreOfTable (table : Graph) (rows : SparseRows) : Type 0 where
  pub firsts : (to : PointId) → All (λ source. HasEdge table (edge_from source to None) × (pos 0 ≤ℤ source.weight)) (list_at rows.firsts to.0)
  pub negative : (to : PointId) → All (λ source. HasEdge table (edge_from source to None)) (list_at rows.negative to.0)
  pub labelled : (label : LinkId) → All (λ source. (to : PointId) × HasEdge table (edge_from source to (Some label))) (list_at rows.labelled label.0)

-- rows are of edges of a table, and have each of some
pub record AreRowsAmong (net : Plan) (table : Graph) (among : Edge → Type 0) (rows : SparseRows) : Type 0 where
  pub have_rows : HaveRowsFor net rows
  pub of_table : AreOfTable table rows
  pub each : (edge : Edge) → HasEdge table edge → among edge → StandsInRow rows edge

-- the rows of a table: of its edges, each in its row
pub record AreRowsOf (net : Plan) (table : Graph) (rows : SparseRows) : Type 0 where
  pub have_rows : HaveRowsFor net rows
  pub of_table : AreOfTable table rows
  pub each : (edge : Edge) → HasEdge table edge → StandsInRow rows edge
