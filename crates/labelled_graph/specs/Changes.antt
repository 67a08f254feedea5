-- A table with one key changed, and the edges that it may take.
use Rattle.std.specs.Prelude.{ℤ, Option, Some, None}
use Rattle.net_model.specs.declared.part.Edge.{Edge}
use Rattle.closure_model.specs.Keys.{Key, Shape, IsKey, key_of, edge_of}
use Rattle.net_model.specs.Limits.{IsWeight}
use Rattle.closure_model.specs.Tables.{Graph, with_edge, without_key}

-- the table in which a key has this weight, or none
abbrev pub with_weight : Graph → Key → Option ℤ → Graph
with_weight graph key None = without_key graph key
with_weight graph key (Some weight) = with_edge graph (edge_of key weight)

-- an edge that a table may take: its key is one that there is, and a table may hold its weight
abbrev pub IsEdgeFor : Shape → Edge → Type 0
IsEdgeFor shape edge = IsKey shape (key_of edge) × IsWeight edge.weight
