-- The lines of a refutation, from a place of the list on.
use Rattle.std.specs.Prelude.{◌≡◌, ◌==◌, ◌<◌, ◌≤◌, ◌||◌, ℕ, Bool, false, List, Some}
use Rattle.std.specs.List.{All, AllPairs, Contains, list_any}
use Rattle.std.specs.Option.{option_map_or}
use Rattle.closure_model.specs.Derivations.{node_at, premises_of, IsUnder}
use Rattle.closure_model.specs.declared.derivation.Node.{Node}
use Rattle.closure_model.specs.declared.derivation.NodeId.{NodeId}

-- a number stands among numbers of nodes
abbrev pub contains_node_id : List NodeId → NodeId → Bool
contains_node_id ids id = list_any (λ (other : NodeId). other.0 == id.0) ids

-- a node is a premise of another one
abbrev pub is_premise : List Node → (id premise : NodeId) → Bool
is_premise nodes id premise = option_map_or (λ (node : Node). contains_node_id (premises_of node.rule) premise) (node_at nodes id) false

-- a node is a step, or a premise of one of the lines
abbrev pub is_wanted : List Node → (steps lines : List NodeId) → NodeId → Bool
is_wanted nodes steps lines id = contains_node_id steps id || list_any (λ (line : NodeId). is_premise nodes line id) lines

-- the nodes from a place on that are steps or stand under them, in order of making
pub record AreLinesFrom (nodes : List Node) (steps : List NodeId) (place : ℕ) (lines : List NodeId) : Type 0 where
  pub in_order : AllPairs (λ (first second : NodeId). first.0 < second.0) lines
  pub late : All (λ (id : NodeId). place ≤ id.0) lines
  pub under : All (λ below. (id : NodeId) × Contains steps id × IsUnder nodes below id) lines
  pub steps_in : (id : NodeId) → Contains steps id → place ≤ id.0 → Contains lines id
  pub premises_in : (id premise : NodeId) (node : Node) → Contains lines id → node_at nodes id ≡ Some node → Contains (premises_of node.rule) premise
      → place ≤ premise.0 → Contains lines premise
