-- The history of one round, node by node: each new node comes by its own rule, from the edges of its own premises, which the worker of its
-- row read.
use Rattle.std.specs.Prelude.{◌≡◌, ℕ, List, [], ◌∷◌, ◌++◌, Some}
use Rattle.std.specs.List.{Contains}
use Rattle.net_model.specs.Network.{Plan, IsPlan}
use Rattle.net_model.specs.declared.part.Edge.{Edge}
use Rattle.closure_model.specs.Derivations.{Support, StandsOn, IsGiven, edge_at, with_node}
use Rattle.closure_model.specs.ReferenceRound.{after_round}
use Rattle.closure_model.specs.ReferenceRow.{IsBelow}
use Rattle.closure_model.specs.Tables.{Graph, HasEdge}
use Rattle.closure_model.specs.declared.derivation.Node.{Node}
use Rattle.closure_model.specs.declared.derivation.NodeId.{NodeId}
use Rattle.closure_model.specs.declared.derivation.Rule.{Rule}
use Rattle.closure_model.specs.declared.derivation.Rule.TheVariants as by_rule
use Rattle.shared_table_laws.specs.TableHistory.{Read, edges_read_by, AreHistory}

-- what happened in a round: the list and the table as they stand, and what the workers read
pub record RoundPast : Type 0 where
  pub support : Support
  pub read : List Read

-- the edge of a premise stands in a table, and a worker read it
pub record IsReadPremise (past : RoundPast) (worker : ℕ) (table : Graph) (premise : NodeId) : Type 0 where
  pub edge : Edge
  pub is : edge_at past.support.nodes premise ≡ Some edge
  pub stands : HasEdge table edge
  pub read : Contains (edges_read_by worker past.read) edge

-- a worker read the edges of the premises of a rule: that of a first premise has the weight that its key had in the table before the round,
-- that of a premise in the row the weight that its key has now, which is that of a node of this round if the key has one
abbrev pub HasReadPremises : Graph → RoundPast → ℕ → Rule → Type 0
HasReadPremises first past worker (by_rule.Bound name) = Unit {0}
HasReadPremises first past worker (by_rule.Link name) = Unit {0}
HasReadPremises first past worker (by_rule.No one second) = IsReadPremise past worker first one × IsReadPremise past worker past.support.table second
HasReadPremises first past worker (by_rule.Up one second) = IsReadPremise past worker first one × IsReadPremise past worker past.support.table second
HasReadPremises first past worker (by_rule.Low name second) = IsReadPremise past worker past.support.table second
HasReadPremises first past worker (by_rule.Cross name second) = IsReadPremise past worker past.support.table second
HasReadPremises first past worker (by_rule.Drop premise) = IsReadPremise past worker past.support.table premise

-- a node comes by its own rule: the rule gives its edge from its premises, whose edges the worker of its row read, and the edge lowers its
-- key
pub record ComesByItsRule (net : Plan) (first : Graph) (past : RoundPast) (node : Node) : Type 0 where
  pub given : IsGiven net past.support.nodes node
  pub read : HasReadPremises first past node.edge.to.0 node.rule
  pub lowers : IsBelow past.support.table node.edge

-- A history of one round: a read step gives a worker the weight that a key has at that step; another step adds a node that comes by its own
-- rule, and its key takes its weight.
pub data RoundHistory (net : Plan) (first : Support) : RoundPast → Type 0 where
  begins : (past : RoundPast) → past ≡ record { support = first; read = [] } → RoundHistory net first past
  reads : (before past : RoundPast) (worker : ℕ) (edge : Edge) → RoundHistory net first before → HasEdge before.support.table edge
      → past ≡ record before { read = before.read ++ record { worker = worker; edge = edge } ∷ [] } → RoundHistory net first past
  adds : (before past : RoundPast) (node : Node) → RoundHistory net first before → ComesByItsRule net first.table before node
      → past ≡ record before { support = with_node before.support node } → RoundHistory net first past

-- a history of one round leads from one support to another
pub record IsRoundHistory (net : Plan) (before after : Support) : Type 0 where
  pub read : List Read
  pub history : RoundHistory net before (record { support = after; read = read })

-- Each node of a round comes by its own rule, from the edges of its own premises, which the worker of its row read before.
abbrev pub NodesComeByTheirRules : Type 0
NodesComeByTheirRules = (net : Plan) (support : Support) → IsPlan net → StandsOn net support → IsRoundHistory net support (after_round net support)

-- A history of one round is a history of its table with the same reads: each node that comes is a step in which the worker of its row
-- relaxes its edge.
abbrev pub RoundHistoriesAreHistories : Type 0
RoundHistoriesAreHistories =
    (net : Plan) (first : Support) (past : RoundPast) → RoundHistory net first past → (are : AreHistory net first past.support) × (are.read ≡ past.read)
