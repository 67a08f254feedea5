-- What is kept of a derivation list when the network is edited.
use Rattle.std.specs.Prelude.{◌≡◌, ◌⊎◌, List, [], ◌∷◌, ◌++◌, length, fold, Option, Some, None, slice_get}
use Rattle.std.specs.List.{slice_index_or, Contains, All}
use Rattle.std.specs.Option.{option_map, option_and_then, option_map_or}
use Rattle.net_model.specs.Network.{Plan}
use Rattle.net_model.specs.declared.ids.BoundId.{BoundId}
use Rattle.net_model.specs.declared.ids.LinkId.{LinkId}
use Rattle.net_model.specs.declared.ids.PointId.{PointId}
use Rattle.net_model.specs.declared.part.Bound.{Bound}
use Rattle.net_model.specs.declared.part.Edge.{Edge}
use Rattle.net_model.specs.declared.part.Link.{Link}
use Rattle.closure_model.specs.Derivations.{node_at, RestsOn, base_nodes, edges_of_nodes, Support}
use Rattle.closure_model.specs.Keys.{shape_of}
use Rattle.closure_model.specs.Tables.{table_of}
use Rattle.closure_model.specs.declared.derivation.Item.TheVariants as item
use Rattle.closure_model.specs.declared.derivation.Item.{Item}
use Rattle.closure_model.specs.declared.derivation.Node.{Node}
use Rattle.closure_model.specs.declared.derivation.NodeId.{NodeId}
use Rattle.closure_model.specs.declared.derivation.Rule.TheVariants as by_rule
use Rattle.closure_model.specs.declared.derivation.Rule.{Rule}

-- The numbers that points, bounds and links of a network have in the edited one. A bound or a link that is taken away has none there; of
-- a point that is dropped nothing is said.
pub record Renumbering : Type 0 where
  pub points : PointId → PointId
  pub bounds : BoundId → Option BoundId
  pub links : LinkId → Option LinkId

-- a bound and a link with the numbers that their points have in the edited network
abbrev pub moved_bound : Renumbering → Bound → Bound
moved_bound moves bound = record bound { from = moves.points bound.from; to = moves.points bound.to }

-- a link with the numbers that its points have in the edited network
abbrev pub moved_link : Renumbering → Link → Link
moved_link moves link = record link { from = moves.points link.from; to = moves.points link.to }

-- what has a number in the edited network stands there under it, with the same numbers and between the same points; and no two links
-- have the same one
pub record IsRenumbering (old new : Plan) (moves : Renumbering) : Type 0 where
  pub bounds : (id place : BoundId) (bound : Bound) → moves.bounds id ≡ Some place → slice_get old.bounds id.0 ≡ Some bound
      → slice_get new.bounds place.0 ≡ Some (moved_bound moves bound)
  pub links : (id place : LinkId) (link : Link) → moves.links id ≡ Some place → slice_get old.links id.0 ≡ Some link
      → slice_get new.links place.0 ≡ Some (moved_link moves link)
  pub apart : (one two place : LinkId) → moves.links one ≡ Some place → moves.links two ≡ Some place → one ≡ two

-- a bound or a link is taken away
abbrev pub IsTakenAway : Renumbering → Item → Type 0
IsTakenAway moves (item.Bound id) = moves.bounds id ≡ None
IsTakenAway moves (item.Link id) = moves.links id ≡ None

-- a node rests on something that is taken away
abbrev pub RestsOnTaken : Renumbering → List Node → NodeId → Type 0
RestsOnTaken moves nodes id = (what : Item) × IsTakenAway moves what × RestsOn nodes id what

-- the number of a label in the edited network; one that is taken away keeps its own
abbrev pub moved_label : Renumbering → LinkId → LinkId
moved_label moves label = option_map_or (λ place. place) (moves.links label) label

-- an edge with the numbers of the edited network
abbrev pub moved_edge : Renumbering → Edge → Edge
moved_edge moves edge = record {
  from = moves.points edge.from;
  to = moves.points edge.to;
  label = option_map (moved_label moves) edge.label;
  weight = edge.weight;
}

-- the number that a node has among the kept ones, if it is kept
abbrev pub place_at : List (Option NodeId) → NodeId → Option NodeId
place_at places id = slice_index_or places id.0 None

-- a rule with the numbers that its premises have among the kept nodes and its bound or link in the edited network, if it has them
abbrev pub moved_rule : Renumbering → List (Option NodeId) → Rule → Option Rule
moved_rule moves places (by_rule.Bound name) = option_map by_rule.Bound (moves.bounds name)
moved_rule moves places (by_rule.Link name) = option_map by_rule.Link (moves.links name)
moved_rule moves places (by_rule.No first second) = option_and_then (λ one. option_map (by_rule.No one) (place_at places second)) (place_at places first)
moved_rule moves places (by_rule.Up first second) = option_and_then (λ one. option_map (by_rule.Up one) (place_at places second)) (place_at places first)
moved_rule moves places (by_rule.Low name second) = option_and_then (λ link. option_map (by_rule.Low link) (place_at places second)) (moves.links name)
moved_rule moves places (by_rule.Cross name second) = option_and_then (λ link. option_map (by_rule.Cross link) (place_at places second)) (moves.links name)
moved_rule moves places (by_rule.Drop premise) = option_map by_rule.Drop (place_at places premise)

-- a node with the numbers of the kept nodes and of the edited network, if its rule has them
abbrev pub moved_node : Renumbering → List (Option NodeId) → Node → Option Node
moved_node moves places node = option_map (λ rule. record { rule = rule; edge = moved_edge moves node.edge }) (moved_rule moves places node.rule)

-- the kept nodes so far, and for each node so far its number among them, if it is kept
pub record Following : Type 0 where
  pub places : List (Option NodeId)
  pub kept : List Node

-- before the first node
abbrev pub none_followed : Following
none_followed = record { places = []; kept = [] }

-- after one node more that has these new numbers, or none
abbrev pub placed : Following → Option Node → Following
placed so_far None = record { places = so_far.places ++ None ∷ []; kept = so_far.kept }
placed so_far (Some node) = record { places = so_far.places ++ Some (record { 0 = length so_far.kept }) ∷ []; kept = so_far.kept ++ node ∷ [] }

-- after one node more of the list
abbrev pub follow_node : Renumbering → Following → Node → Following
follow_node moves so_far node = placed so_far (moved_node moves so_far.places node)

-- What is kept of a derivation list, node after node. A node is kept if its bound or link has a number in the edited network, and its
-- premises have places among the kept nodes; it has these numbers then. Any other has no place.
abbrev pub followed : Renumbering → List Node → Following
followed moves nodes = fold (follow_node moves) none_followed nodes

-- a node has a number among the kept ones exactly if it rests on nothing taken away, and stands there with the new numbers of its premises,
-- its edge and its bound or link
pub record IsKeptAt (moves : Renumbering) (nodes : List Node) (places : List (Option NodeId)) (kept : List Node) (id : NodeId) (node : Node)
    (place : NodeId) : Type 0 where
  pub free : ¬ RestsOnTaken moves nodes id
  pub made : Node
  pub moved : moved_node moves places node ≡ Some made
  pub here : node_at kept place ≡ Some made

-- a node without a number among the kept ones rests on something taken away; one with a number is kept there
abbrev pub IsKeptOrTaken : Renumbering → (nodes : List Node) → List (Option NodeId) → List Node → NodeId → Node → Option NodeId → Type 0
IsKeptOrTaken moves nodes places kept id node None = RestsOnTaken moves nodes id
IsKeptOrTaken moves nodes places kept id node (Some place) = IsKeptAt moves nodes places kept id node place

-- a base node of the edited network is that of a bound or a link of the old one that is not taken away
abbrev pub IsMovedBase : Plan → Plan → Renumbering → Node → Type 0
IsMovedBase old new moves node = (what : Node) × (Contains (base_nodes old) what) × (moved_node moves [] what ≡ Some node)

-- the new base nodes of an edited network: base nodes of it, and together with those that are kept, all
pub record AreNewBase (old new : Plan) (moves : Renumbering) (news : List Node) : Type 0 where
  pub of_base : All (Contains (base_nodes new)) news
  pub whole : (node : Node) → Contains (base_nodes new) node → Contains news node ⊎ IsMovedBase old new moves node

-- what supports a table after an edit: the kept nodes, then the new base nodes, and the table of the least edges of these
abbrev pub followed_support : Plan → Renumbering → List Node → Support → Support
followed_support new moves news support = record {
  nodes = (followed moves support.nodes).kept ++ news;
  table = table_of (shape_of new) (edges_of_nodes ((followed moves support.nodes).kept ++ news));
}
