-- When the nodes of a derivation list can be made into rule lines.
use Rattle.std.specs.Prelude.{◌≡◌, ◌<◌, true, length, List, IfSome, IsSome, IsSomeAnd}
use Rattle.std.specs.List.{All, AllByRecursion, AllPairs, Contains}
use Rattle.net_model.specs.Network.{Plan, IsPoint}
use Rattle.net_model.specs.declared.ids.LinkId.{LinkId}
use Rattle.closure_model.specs.Derivations.{node_at, item_of, premises_of}
use Rattle.closure_model.specs.Keys.{Key}
use Rattle.closure_model.specs.Tables.{Graph, weight_of}
use Rattle.closure_model.specs.declared.derivation.Item.{Item}
use Rattle.closure_model.specs.declared.derivation.Item.TheVariants as item
use Rattle.closure_model.specs.declared.derivation.Node.{Node}
use Rattle.closure_model.specs.declared.derivation.NodeId.{NodeId}
use Rattle.cert_format.specs.Kind.{has_label}
use Rattle.refutation_certificates.specs.Certificates.{kind_of}

-- a bound or a link is one of the network
abbrev pub IsItemOf : Plan → Item → Type 0
IsItemOf net (item.Bound name) = name.0 < length net.bounds
IsItemOf net (item.Link name) = name.0 < length net.links

-- numbers of nodes, in order of making
abbrev pub AreInOrderOfMaking : List NodeId → Type 0
AreInOrderOfMaking lines = AllPairs (λ (first second : NodeId). first.0 < second.0) lines

-- a node can be a line: its edge and what its rule uses are of the network, its premises are lines, and its edge has the label that
-- its line names
pub record CanBeLine (net : Plan) (lines : List NodeId) (node : Node) : Type 0 where
  pub from : IsPoint net node.edge.from
  pub to : IsPoint net node.edge.to
  pub item : IfSome (item_of node.rule) (IsItemOf net)
  pub premises : AllByRecursion (Contains lines) (premises_of node.rule)
  pub label : IfSome node.edge.label (λ (label : LinkId). label.0 < length net.links)
  pub labelled : has_label (kind_of net lines node.rule) ≡ true → IsSome node.edge.label

-- nodes of a list, in order of making, that can all be lines
pub record CanBeLines (net : Plan) (nodes : List Node) (lines : List NodeId) : Type 0 where
  pub in_order : AreInOrderOfMaking lines
  pub each : All (λ (id : NodeId). IsSomeAnd (node_at nodes id) (CanBeLine net lines)) lines

-- a table has a weight for a key
abbrev pub HasWeight : Graph → Key → Type 0
HasWeight table key = IsSome (weight_of table key)
