-- The nodes that rounds add to a derivation list: each has a weight below the earlier ones of its key, so nothing that stands is derived
-- again.
use Rattle.std.specs.Prelude.{◌≡◌, ◌≤◌, ◌<◌, ◌<ℤ◌, List, length, Some}
use Rattle.net_model.specs.Network.{Plan}
use Rattle.closure_model.specs.Derivations.{Support, StandsOn, node_at}
use Rattle.closure_model.specs.Keys.{key_of}
use Rattle.closure_model.specs.declared.derivation.Node.{Node}
use Rattle.closure_model.specs.declared.derivation.NodeId.{NodeId}
use Rattle.shared_table_laws.specs.TableHistory.{AreHistory}

-- each node from a number on has a weight below that of every earlier node of its key
abbrev pub ImproveFrom : List Node → NodeId → Type 0
ImproveFrom nodes first =
    (id other : NodeId) (node earlier : Node) → first.0 ≤ id.0 → other.0 < id.0
    → node_at nodes id ≡ Some node → node_at nodes other ≡ Some earlier → key_of earlier.edge ≡ key_of node.edge
    → node.edge.weight <ℤ earlier.edge.weight

-- The nodes that a history of rounds adds come after those before it, and each has a weight below that of every earlier node of its key,
-- whatever list and table the rounds start from.
abbrev pub LaterNodesImprove : Type 0
LaterNodesImprove =
    (net : Plan) (before after : Support) → StandsOn net before → AreHistory net before after → ImproveFrom after.nodes (record { 0 = length before.nodes })
