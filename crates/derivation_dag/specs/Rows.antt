-- The nodes of the edges that a row made.
use Rattle.std.specs.Prelude.{◌≡◌, ◌<◌, List, [], ◌∷◌, ◌++◌, Option, Some}
use Rattle.std.specs.Option.{option_map, option_map_or, option_and_then}
use Rattle.std.specs.List.{All}
use Rattle.net_model.specs.Edges.{IsEdge}
use Rattle.net_model.specs.Network.{Plan}
use Rattle.net_model.specs.declared.ids.PointId.{PointId}
use Rattle.closure_model.specs.Derivations.{Support, IsGiven}
use Rattle.closure_model.specs.ReferenceRound.{node_for}
use Rattle.closure_model.specs.ReferenceRow.{with_made, IsBelow}
use Rattle.closure_model.specs.Tables.{IsFor}
use Rattle.closure_model.specs.declared.derivation.Node.{Node}
use Rattle.closure_model.specs.declared.derivation.NodeId.{NodeId}
use Rattle.closure_model.specs.declared.derivation.Rule.{Rule}
use Rattle.closure_model.specs.declared.derivation.Rule.TheVariants as by_rule
use Rattle.closure_model.specs.declared.rows.Made.{Made}
use Rattle.closure_model.specs.declared.rows.Why.{Why}
use Rattle.closure_model.specs.declared.rows.Why.TheVariants.{No, Up, Low, Cross, Drop}

-- the rule of a new node, if its first premise has a node: the premise in the row is the node that its key now has
abbrev pub rule_with : List Node → Option NodeId → Why → Option Rule
rule_with now first (No one second) = option_and_then (λ id. option_map (by_rule.No id) (node_for now second)) first
rule_with now first (Up one second) = option_and_then (λ id. option_map (by_rule.Up id) (node_for now second)) first
rule_with now first (Low link second) = option_map (by_rule.Low link) (node_for now second)
rule_with now first (Cross link second) = option_map (by_rule.Cross link) (node_for now second)
rule_with now first (Drop premise) = option_map by_rule.Drop (node_for now premise)

-- a list after an edge that a row made got its node
abbrev pub nodes_with : List Node → Made → Option NodeId → List Node
nodes_with nodes one first = option_map_or (λ rule. nodes ++ record { rule = rule; edge = one.edge } ∷ []) (rule_with nodes first one.why) nodes

-- a list after the edges that a row made got their nodes, one after another; for each edge the node of its first premise is given
abbrev pub nodes_with_all : List Node → List Made → List (Option NodeId) → List Node
nodes_with_all nodes [] firsts = nodes
nodes_with_all nodes (one ∷ made) [] = nodes
nodes_with_all nodes (one ∷ made) (first ∷ firsts) = nodes_with_all (nodes_with nodes one first) made firsts

-- an edge that a row made has its rule, and this gives it from nodes of a list
pub record HasRule (net : Plan) (nodes : List Node) (one : Made) (first : Option NodeId) : Type 0 where
  pub rule : Rule
  pub is : rule_with nodes first one.why ≡ Some rule
  pub follows : IsGiven net nodes (record { rule = rule; edge = one.edge })

-- so does each, one after another
abbrev pub HaveRules : Plan → List Node → List Made → List (Option NodeId) → Type 0
HaveRules net nodes [] firsts = Unit {0}
HaveRules net nodes (one ∷ made) [] = ⊥
HaveRules net nodes (one ∷ made) (first ∷ firsts) = HasRule net nodes one first × HaveRules net (nodes_with nodes one first) made firsts

-- a store can take the edges that a row made for a target: they are edges of the network that end in the target, each below what the table
-- has of its key, and each has its rule
pub record CanTakeRow (net : Plan) (support : Support) (to : PointId) (made : List Made) (firsts : List (Option NodeId)) : Type 0 where
  pub for_network : IsFor net support.table
  pub target : to.0 < support.table.shape.points
  pub ends : All (λ (one : Made). one.edge.to ≡ to) made
  pub edges : All (λ (one : Made). IsEdge net one.edge) made
  pub descends : All (λ (one : Made). IsBelow support.table one.edge) made
  pub rules : HaveRules net support.nodes made firsts

-- what supports the table when the edges that a row made have their nodes
abbrev pub with_row : Support → List Made → List (Option NodeId) → Support
with_row support made firsts = record { nodes = nodes_with_all support.nodes made firsts; table = with_made support.table made }
