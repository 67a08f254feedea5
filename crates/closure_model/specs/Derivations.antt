-- Derivation lists (Morris and Muscettola 2005, in this project's form): edges in the order of making, each with its rule and
-- with premises that stand earlier, and what a node rests on.
use Rattle.std.specs.Prelude.{◌≡◌, ◌≢◌, ℕ, ℤ, ◌<◌, ◌≤ℤ◌, ◌<ℤ◌, List, [], ◌∷◌, ◌++◌, map, take, Option, Some, None, MatchOption, slice_get}
use Rattle.std.specs.Option.{option_map, option_and_then}
use Rattle.std.specs.List.{Contains, All, AllPairs, enumerate_from}
use Rattle.net_model.specs.Network.{Plan}
use Rattle.net_model.specs.Rules.{bound_edge, link_edge, no_case, upper_case, lower_case, cross_case, removal}
use Rattle.net_model.specs.declared.part.Bound.{Bound}
use Rattle.net_model.specs.declared.part.Edge.{Edge}
use Rattle.net_model.specs.declared.part.Link.{Link}
use Rattle.closure_model.specs.Keys.{Key, key_of, shape_of}
use Rattle.closure_model.specs.Tables.{Graph, lowered, table_of, base_table}
use Rattle.closure_model.specs.declared.derivation.Item.{Item}
use Rattle.closure_model.specs.declared.derivation.Item.TheVariants as item
use Rattle.closure_model.specs.declared.derivation.Node.{Node}
use Rattle.closure_model.specs.declared.derivation.NodeId.{NodeId}
use Rattle.closure_model.specs.declared.derivation.Rule.{Rule}
use Rattle.closure_model.specs.declared.derivation.Rule.TheVariants as by_rule

-- the node of a number
abbrev pub node_at : List Node → NodeId → Option Node
node_at nodes id = slice_get nodes id.0

-- the edge of the node of a number
abbrev pub edge_at : List Node → NodeId → Option Edge
edge_at nodes id = option_map (λ (node : Node). node.edge) (node_at nodes id)

-- the edges of nodes
abbrev pub edges_of_nodes : List Node → List Edge
edges_of_nodes nodes = map (λ (node : Node). node.edge) nodes

-- what a rule gives from nodes, if it gives an edge
abbrev pub given_by : Plan → List Node → Rule → Option Edge
given_by net nodes (by_rule.Bound name) = option_map bound_edge (slice_get net.bounds name.0)
given_by net nodes (by_rule.Link name) = option_map (link_edge name) (slice_get net.links name.0)
given_by net nodes (by_rule.No first second) = option_and_then (λ one. option_and_then (no_case one) (edge_at nodes second)) (edge_at nodes first)
given_by net nodes (by_rule.Up first second) = option_and_then (λ one. option_and_then (upper_case one) (edge_at nodes second)) (edge_at nodes first)
given_by net nodes (by_rule.Low name second) = option_and_then (lower_case net name) (edge_at nodes second)
given_by net nodes (by_rule.Cross name second) = option_and_then (cross_case net name) (edge_at nodes second)
given_by net nodes (by_rule.Drop premise) = option_and_then (removal net) (edge_at nodes premise)

-- a node follows from nodes: its rule gives its edge from them
abbrev pub IsGiven : Plan → List Node → Node → Type 0
IsGiven net nodes node = given_by net nodes node.rule ≡ Some node.edge

-- a derivation list of a network: each node follows from those before it
abbrev pub IsDerivationList : Plan → List Node → Type 0
IsDerivationList net nodes = (id : NodeId) (node : Node) → node_at nodes id ≡ Some node → IsGiven net (take id.0 nodes) node

-- the premises of a rule, in the order of the edges
abbrev pub premises_of : Rule → List NodeId
premises_of (by_rule.Bound name) = []
premises_of (by_rule.Link name) = []
premises_of (by_rule.No first second) = first ∷ second ∷ []
premises_of (by_rule.Up first second) = first ∷ second ∷ []
premises_of (by_rule.Low name second) = second ∷ []
premises_of (by_rule.Cross name second) = second ∷ []
premises_of (by_rule.Drop premise) = premise ∷ []

-- the premises of each node stand earlier
abbrev pub PremisesStandEarlier : List Node → Type 0
PremisesStandEarlier nodes = (id : NodeId) (node : Node) → node_at nodes id ≡ Some node → All (λ premise. premise.0 < id.0) (premises_of node.rule)

-- the bound or the link that a rule uses, if it uses one
abbrev pub item_of : Rule → Option Item
item_of (by_rule.Bound name) = Some (item.Bound name)
item_of (by_rule.Link name) = Some (item.Link name)
item_of (by_rule.No first second) = None
item_of (by_rule.Up first second) = None
item_of (by_rule.Low name second) = Some (item.Link name)
item_of (by_rule.Cross name second) = Some (item.Link name)
item_of (by_rule.Drop premise) = None

-- a node is another one or stands under it: it is one of its premises, or stands under one of them
pub data IsUnder (nodes : List Node) (below : NodeId) : NodeId → Type 0 where
  itself : (id : NodeId) → id ≡ below → IsUnder nodes below id
  under : (id premise : NodeId) (node : Node) → node_at nodes id ≡ Some node → Contains (premises_of node.rule) premise → IsUnder nodes below premise
      → IsUnder nodes below id

-- a node rests on a bound or a link: it or a node under it uses it
pub record RestsOn (nodes : List Node) (id : NodeId) (what : Item) : Type 0 where
  pub below : NodeId
  pub node : Node
  pub under : IsUnder nodes below id
  pub here : node_at nodes below ≡ Some node
  pub uses : item_of node.rule ≡ Some what

-- nodes and all that stand under them, each once, in order of making
pub record AreAncestors (nodes : List Node) (ids found : List NodeId) : Type 0 where
  pub under : All (λ below. (id : NodeId) × Contains ids id × IsUnder nodes below id) found
  pub whole : (id below : NodeId) → Contains ids id → IsUnder nodes below id → Contains found below
  pub in_order : AllPairs (λ (first second : NodeId). first.0 < second.0) found

-- the node of a key: the first of least weight among its nodes
pub record IsNodeOf (nodes : List Node) (key : Key) (id : NodeId) : Type 0 where
  pub node : Node
  pub here : node_at nodes id ≡ Some node
  pub of_key : key_of node.edge ≡ key
  pub least : (other : NodeId) (m : Node) → node_at nodes other ≡ Some m → key_of m.edge ≡ key → node.edge.weight ≤ℤ m.edge.weight
  pub first : (other : NodeId) (m : Node) → node_at nodes other ≡ Some m → key_of m.edge ≡ key → other.0 < id.0 → node.edge.weight <ℤ m.edge.weight

-- a key has no node
abbrev pub HasNoNode : List Node → Key → Type 0
HasNoNode nodes key = (id : NodeId) (node : Node) → node_at nodes id ≡ Some node → key_of node.edge ≢ key

-- the node of a key, if it has nodes
abbrev pub IsNewest : List Node → Key → Option NodeId → Type 0
IsNewest nodes key found = MatchOption found (HasNoNode nodes key) (IsNodeOf nodes key)

-- the weight of the node that was found, if one was
abbrev pub weight_at : List Node → Option NodeId → Option ℤ
weight_at nodes found = option_and_then (λ id. option_map (λ (edge : Edge). edge.weight) (edge_at nodes id)) found

-- the node of a bound, by its number
abbrev pub bound_node : ℕ × Bound → Node
bound_node e = record { rule = by_rule.Bound (record { 0 = e.0 }); edge = bound_edge e.1 }

-- the node of a link, by its number
abbrev pub link_node : ℕ × Link → Node
link_node e = record { rule = by_rule.Link (record { 0 = e.0 }); edge = link_edge (record { 0 = e.0 }) e.1 }

-- the nodes of bounds and links, each list in its order
abbrev pub base_nodes : Plan → List Node
base_nodes net = map bound_node (enumerate_from 0 net.bounds) ++ map link_node (enumerate_from 0 net.links)

-- what supports a table: a derivation list and the table of the least edges of its nodes
pub record Support : Type 0 where
  pub nodes : List Node
  pub table : Graph

-- the base nodes and the base table of a network
abbrev pub base_support : Plan → Support
base_support net = record { nodes = base_nodes net; table = base_table net }

-- one node more: it comes to the end of the list, and its edge to the table
abbrev pub with_node : Support → Node → Support
with_node support node = record { nodes = support.nodes ++ node ∷ []; table = lowered support.table node.edge }

-- a table is that of a list: it has the keys of the nodes, each at the weight of its node
abbrev pub IsTableOf : Plan → List Node → Graph → Type 0
IsTableOf net nodes table = table ≡ table_of (shape_of net) (edges_of_nodes nodes)

-- a list and a table stand on a network: the list is one of its derivation lists and has a node for each bound and each link,
-- and the table is that of the list
pub record StandsOn (net : Plan) (support : Support) : Type 0 where
  pub derived : IsDerivationList net support.nodes
  pub based : All (Contains support.nodes) (base_nodes net)
  pub table : IsTableOf net support.nodes support.table
