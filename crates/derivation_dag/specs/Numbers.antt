-- The number of the node of each key: at the place of the key, or in a map by edge keys.
use Rattle.std.specs.Prelude.{◌≡◌, ◌<◌, ◌<ℤ◌, ◌≤ℤ◌, Bool, ℕ, List, Option, Some, None, MatchOption}
use Rattle.std.specs.HashMap.{get, spare}
use Rattle.std.specs.List.{slice_index_or}
use Rattle.net_model.specs.declared.part.Edge.{Edge}
use Rattle.closure_model.specs.Keys.{Key, key_of}
use Rattle.closure_model.specs.Derivations.{node_at, IsNodeOf, IsNewest}
use Rattle.closure_model.specs.declared.derivation.Node.{Node}
use Rattle.closure_model.specs.declared.derivation.NodeId.{NodeId}
use Rattle.derivation_dag.specs.Places.{dense_place, recorded}
use Rattle.derivation_dag.specs.declared.key.EdgeKey.{EdgeKey}
use Rattle.derivation_dag.specs.declared.numbers.Numbers.{Numbers}
use Rattle.derivation_dag.specs.contracts.key.EdgeKeyPartialEq.TheImpl as edge_key_eq

-- when two edge keys are the same
abbrev pub same_edge_key : EdgeKey → EdgeKey → Bool
same_edge_key = (edge_key_eq.ghosts).eq

-- a key as an edge key
abbrev pub edge_key : Key → EdgeKey
edge_key key = record { to = key.to; from = key.from; label = key.label }

-- the number of a key that has this place, or none
abbrev pub number_at : Numbers → Key → Option ℕ → Option NodeId
number_at numbers key None = get same_edge_key numbers.others (edge_key key)
number_at numbers key (Some place) = recorded (slice_index_or numbers.ordinary.counted place 0)

-- the number of a key
abbrev pub number_of : Numbers → Key → Option NodeId
number_of numbers key = number_at numbers key (dense_place numbers.ordinary.points key)

-- no key has a number
abbrev pub IsWithout : Numbers → Type 0
IsWithout numbers = (key : Key) → number_of numbers key ≡ None

-- each key has the number that it had
abbrev pub AreSame : Numbers → Numbers → Type 0
AreSame before after = (key : Key) → number_of after key ≡ number_of before key

-- a number can be set for a key
abbrev pub HasCapacity : Numbers → Key → Type 0
HasCapacity numbers key = MatchOption (dense_place numbers.ordinary.points key) (0 < spare numbers.others) (λ _. Unit {0})

-- each key of a list has the number of its node
abbrev pub NumbersNodes : List Node → Numbers → Type 0
NumbersNodes nodes numbers = (key : Key) → IsNewest nodes key (number_of numbers key)

-- an edge is below every node of its key
abbrev pub IsBelowAll : List Node → Edge → Type 0
IsBelowAll nodes edge = (other : NodeId) (node : Node) → node_at nodes other ≡ Some node → key_of node.edge ≡ key_of edge → edge.weight <ℤ node.edge.weight

-- an edge is below each node of its key among so many first ones
abbrev pub IsBelowFirst : List Node → ℕ → Edge → Type 0
IsBelowFirst nodes first edge = (other : NodeId) (node : Node) → other.0 < first → node_at nodes other ≡ Some node → key_of node.edge ≡ key_of edge → edge.weight <ℤ node.edge.weight

-- a node of the key of an edge is not above it
pub record HasNodeAtMost (nodes : List Node) (edge : Edge) : Type 0 where
  pub id : NodeId
  pub of_key : IsNodeOf nodes (key_of edge) id
  pub less : of_key.node.edge.weight ≤ℤ edge.weight
