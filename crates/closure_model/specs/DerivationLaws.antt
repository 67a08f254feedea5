-- What holds of derivation lists.
use Rattle.std.specs.Prelude.{◌≡◌, ℤ, ◌≤◌, List, Option, Some, MatchOption}
use Rattle.net_model.specs.Network.{Plan}
use Rattle.net_model.specs.declared.ids.LinkId.{LinkId}
use Rattle.closure_model.specs.Keys.{Key, edge_of}
use Rattle.closure_model.specs.Tables.{Graph, weight_of}
use Rattle.closure_model.specs.Derivable.{IsDerivable}
use Rattle.closure_model.specs.Closure.{HoldsDerivable}
use Rattle.closure_model.specs.Derivations.{node_at, edge_at, IsGiven, IsDerivationList, PremisesStandEarlier, IsUnder, RestsOn, IsNodeOf, HasNoNode, IsNewest}
use Rattle.closure_model.specs.Derivations.{weight_at, Support, base_support, with_node, IsTableOf, StandsOn}
use Rattle.closure_model.specs.declared.derivation.Item.TheVariants as item
use Rattle.closure_model.specs.declared.derivation.Node.{Node}
use Rattle.closure_model.specs.declared.derivation.NodeId.{NodeId}

-- the weight of every node is derivable for its key
abbrev pub NodesAreDerivable : Type 0
NodesAreDerivable = (net : Plan) (nodes : List Node) (id : NodeId) (node : Node) → IsDerivationList net nodes → node_at nodes id ≡ Some node
    → IsDerivable net node.edge

-- the premises of every node stand earlier
abbrev pub PremisesAreEarlier : Type 0
PremisesAreEarlier = (net : Plan) (nodes : List Node) → IsDerivationList net nodes → PremisesStandEarlier nodes

-- resting is by finite descent: what stands under a node stands no later
abbrev pub UnderIsEarlier : Type 0
UnderIsEarlier = (nodes : List Node) (below id : NodeId) → PremisesStandEarlier nodes → IsUnder nodes below id → below.0 ≤ id.0

-- a node whose edge has a label rests on the link of that label
abbrev pub LabelledRestOnLinks : Type 0
LabelledRestOnLinks =
    (net : Plan) (nodes : List Node) (id : NodeId) (node : Node) (label : LinkId) → IsDerivationList net nodes → node_at nodes id ≡ Some node
    → node.edge.label ≡ Some label → RestsOn nodes id (item.Link label)

-- the base nodes and the base table of a network stand on it
abbrev pub BaseStands : Type 0
BaseStands = (net : Plan) → StandsOn net (base_support net)

-- a list and a table still stand on their network when a node that follows comes to the list and its edge to the table
abbrev pub FollowingKeepsStanding : Type 0
FollowingKeepsStanding =
    (net : Plan) (support : Support) (node : Node) → StandsOn net support → IsGiven net support.nodes node → StandsOn net (with_node support node)

-- a table that stands on a network with its list holds derivable edges only
abbrev pub StandingIsDerivable : Type 0
StandingIsDerivable = (net : Plan) (support : Support) → StandsOn net support → HoldsDerivable net support.table

-- the table of a list has exactly the keys of its nodes, each at the weight of the node of the key
abbrev pub TablesMatchNodes : Type 0
TablesMatchNodes =
    (net : Plan) (nodes : List Node) (table : Graph) (key : Key) → IsTableOf net nodes table
    → MatchOption (weight_of table key) (HasNoNode nodes key) (λ (weight : ℤ). (id : NodeId) × IsNodeOf nodes key id
    × (edge_at nodes id ≡ Some (edge_of key weight)))

-- what is found as the node of a key has the weight that the table of the list has for it
abbrev pub NewestHasTheWeight : Type 0
NewestHasTheWeight =
    (net : Plan) (nodes : List Node) (table : Graph) (key : Key) (found : Option NodeId) → IsTableOf net nodes table → IsNewest nodes key found
    → weight_at nodes found ≡ weight_of table key

-- a key has one node at most
abbrev pub NodeOfKeyIsOne : Type 0
NodeOfKeyIsOne = (nodes : List Node) (key : Key) (one two : NodeId) → IsNodeOf nodes key one → IsNodeOf nodes key two → one ≡ two
