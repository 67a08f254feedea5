-- What holds of keys and tables.
use Rattle.std.specs.Prelude.{◌≡◌, ◌<◌, ◌↔◌, List}
use Rattle.std.specs.List.{Contains}
use Rattle.std.specs.List.Sorted.{IsStrictlySortedBy}
use Rattle.net_model.specs.Network.{Plan, IsPlan}
use Rattle.net_model.specs.declared.ids.PointId.{PointId}
use Rattle.net_model.specs.declared.part.Edge.{Edge}
use Rattle.closure_model.specs.Keys.{Key, Shape, IsKey, key_cmp, row_keys, all_keys}
use Rattle.closure_model.specs.Tables.{Graph, HasEdge, edges_of, row_of, edges_at, table_of, IsLeast, base_table, HasBase, IsForwardClosed, IsAtMost, IsGraph}

-- the keys that there are, in their order, each once
abbrev pub AllKeysAreListed : Type 0
AllKeysAreListed = (shape : Shape) → IsStrictlySortedBy key_cmp (all_keys shape) × ((key : Key) → Contains (all_keys shape) key ↔ IsKey shape key)

-- the listed edges of a table are those that it has
abbrev pub EdgesAreListed : Type 0
EdgesAreListed = (graph : Graph) (edge : Edge) → Contains (edges_of graph) edge ↔ HasEdge graph edge

-- the edges of a sound table, and those of each row, are what it has at the keys in their order
abbrev pub RowsAreListed : Type 0
RowsAreListed = (graph : Graph) → IsGraph graph → (edges_of graph ≡ edges_at graph (all_keys graph.shape))
    × ((to : PointId) → to.0 < graph.shape.points → row_of graph to ≡ edges_at graph (row_keys graph.shape to))

-- the table of a list of edges has exactly the least of each key
abbrev pub TablesHoldTheLeast : Type 0
TablesHoldTheLeast = (shape : Shape) (given : List Edge) (edge : Edge) → HasEdge (table_of shape given) edge ↔ IsLeast given edge

-- the base table of a network is a sound table, has the base edges, and every table that has them is at most it
abbrev pub BaseTableIsWeakest : Type 0
BaseTableIsWeakest = (net : Plan) → IsPlan net → IsGraph (base_table net) × HasBase net (base_table net)
    × ((graph : Graph) → HasBase net graph → IsAtMost graph (base_table net))

-- a forward closed table has the base edges
abbrev pub ForwardClosedTablesHaveTheBase : Type 0
ForwardClosedTablesHaveTheBase = (net : Plan) (graph : Graph) → IsForwardClosed net graph → HasBase net graph
