-- Tables of the labelled distance graph (Morris and Muscettola 2005, in this project's form): at most one edge for each key,
-- the one of least weight.
use Rattle.std.specs.Prelude.{◌≡◌, ◌==◌, ℕ, ℤ, ◌≤ℤ◌, ◌≤◌, ◌<◌, int_le, Bool, false, List, ◌++◌, length, map, filter, fold, Option, Some, IsSomeAnd}
use Rattle.std.specs.Prelude.{if◌then◌else◌}
use Rattle.std.specs.FinMap as map_of
use Rattle.std.specs.List.{All, Contains, enumerate_from, filter_map}
use Rattle.std.specs.Option.{option_map, option_map_or}
use Rattle.net_model.specs.Limits.{most_points, most_links, IsWeight}
use Rattle.net_model.specs.Network.{Plan}
use Rattle.net_model.specs.Rules.{bound_edge, link_edge, Follows}
use Rattle.net_model.specs.ForwardRules.{FollowsForward}
use Rattle.net_model.specs.declared.ids.PointId.{PointId}
use Rattle.net_model.specs.declared.part.Edge.{Edge}
use Rattle.net_model.specs.declared.part.Link.{Link}
use Rattle.closure_model.specs.Keys.{Key, key_of, edge_of, key_cmp, Shape, shape_of, IsKey}

-- a table: a finite map from keys to weights, and the points and links that it is for
pub record Graph : Type 0 where
  pub shape : Shape
  pub weights : map_of.FinMap key_cmp ℤ

-- the weight of a key, if the table has one
abbrev pub weight_of : Graph → Key → Option ℤ
weight_of graph key = map_of.get graph.weights key

-- a table has an edge: it has its key, at its weight
abbrev pub HasEdge : Graph → Edge → Type 0
HasEdge graph edge = weight_of graph (key_of edge) ≡ Some edge.weight

-- the edges of a table, in the order of their keys
abbrev pub edges_of : Graph → List Edge
edges_of graph = map (λ entry. edge_of entry.0 entry.1) (map_of.entries graph.weights)

-- the edges of the row of a target, in the order of their keys
abbrev pub row_of : Graph → PointId → List Edge
row_of graph to = filter (λ edge. edge.to.0 == to.0) (edges_of graph)

-- the edges that a table has at some keys, in the order of these
abbrev pub edges_at : Graph → List Key → List Edge
edges_at graph keys = filter_map (λ key. option_map (edge_of key) (weight_of graph key)) keys

-- the table in which the key of an edge has its weight, and every other key what it had
abbrev pub with_edge : Graph → Edge → Graph
with_edge graph edge = record graph { weights = map_of.insert graph.weights (key_of edge) edge.weight }

-- the table without a key
abbrev pub without_key : Graph → Key → Graph
without_key graph key = record graph { weights = map_of.remove graph.weights key }

-- the table without edges
abbrev pub no_edges : Shape → Graph
no_edges shape = record { shape = shape; weights = map_of.empty }

-- the table has the key of an edge at a weight that is no greater
abbrev pub has_at_most : Graph → Edge → Bool
has_at_most graph edge = option_map_or (λ weight. int_le weight edge.weight) (weight_of graph (key_of edge)) false

-- the same as something that holds: the table has the key of an edge, at a weight that is no greater
abbrev pub HasAtMost : Graph → Edge → Type 0
HasAtMost graph edge = IsSomeAnd (weight_of graph (key_of edge)) (λ weight. weight ≤ℤ edge.weight)

-- the table with one more edge, if it had none of this key or a greater one
abbrev pub lowered : Graph → Edge → Graph
lowered graph edge = if has_at_most graph edge then graph else with_edge graph edge

-- the least of the edges of each key
abbrev pub table_of : Shape → List Edge → Graph
table_of shape given = fold lowered (no_edges shape) given

-- an edge is the least of its key among given ones
pub record IsLeast (given : List Edge) (edge : Edge) : Type 0 where
  pub is_given : Contains given edge
  pub least : All (λ other. key_of other ≡ key_of edge → edge.weight ≤ℤ other.weight) given

-- the edges of bounds and links, each list in its order
abbrev pub base_edges : Plan → List Edge
base_edges net = map bound_edge net.bounds ++ map (λ (e : ℕ × Link). link_edge (record { 0 = e.0 }) e.1) (enumerate_from 0 net.links)

-- the base table of a network: the least of the edges of bounds and links of each key
abbrev pub base_table : Plan → Graph
base_table net = table_of (shape_of net) (base_edges net)

-- a table is for the points and links of a network
abbrev pub IsFor : Plan → Graph → Type 0
IsFor net graph = graph.shape ≡ shape_of net

-- a table has the base edges of a network, or edges of their keys of lesser weight
abbrev pub HasBase : Plan → Graph → Type 0
HasBase net graph = All (HasAtMost graph) (base_edges net)

-- a table is closed under the exact rules, those of bounds and links among them: whatever follows from its edges, it has at a
-- weight that is no greater
abbrev pub IsClosed : Plan → Graph → Type 0
IsClosed net graph = (edge : Edge) → Follows net (edges_of graph) edge → HasAtMost graph edge

-- a table is forward closed: whatever follows forward from its edges, it has at a weight that is no greater
abbrev pub IsForwardClosed : Plan → Graph → Type 0
IsForwardClosed net graph = (edge : Edge) → FollowsForward net (edges_of graph) edge → HasAtMost graph edge

-- one table has each edge of another, at a weight that is no greater
abbrev pub IsAtMost : (low high : Graph) → Type 0
IsAtMost low high = (edge : Edge) → HasEdge high edge → HasAtMost low edge

-- a table is sound: its edges are of keys that there are and of weights that it may hold, its links begin in points, and
-- there are not too many of either
pub record IsGraph (graph : Graph) : Type 0 where
  pub keys : (edge : Edge) → HasEdge graph edge → IsKey graph.shape (key_of edge)
  pub weights : (edge : Edge) → HasEdge graph edge → IsWeight edge.weight
  pub begins : All (λ point. point.0 < graph.shape.points) graph.shape.activations
  pub few_points : graph.shape.points ≤ most_points
  pub few_links : length graph.shape.activations ≤ most_links
