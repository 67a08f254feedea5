-- What plain supports contain: a list, and the table of the least edges of its nodes.
use Rattle.std.specs.Prelude.{◌≡◌, []}
use Rattle.std.specs.List.{All}
use Rattle.net_model.specs.Network.{Plan}
use Rattle.closure_model.specs.Keys.{shape_of}
use Rattle.net_model.specs.Limits.{IsWeight}
use Rattle.closure_model.specs.Tables.{no_edges, table_of}
use Rattle.closure_model.specs.Derivations.{Support, edges_of_nodes}
use Rattle.closure_model.specs.declared.derivation.Node.{Node}

-- no node, and the table of a network without edges
abbrev pub no_support : Plan → Support
no_support net = record { nodes = []; table = no_edges (shape_of net) }

-- the table is that of the list, and all weights are such as a table may have
pub record IsSupported (support : Support) : Type 0 where
  pub tabled : support.table ≡ table_of support.table.shape (edges_of_nodes support.nodes)
  pub weights : All (λ (node : Node). IsWeight node.edge.weight) support.nodes
