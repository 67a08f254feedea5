-- What a list of nodes supports: the table that has for each key the least weight of its nodes.
use Rattle.std.specs.Prelude.{List}
use Rattle.net_model.specs.Network.{Plan}
use Rattle.closure_model.specs.Derivations.{Support, edges_of_nodes}
use Rattle.closure_model.specs.Keys.{shape_of}
use Rattle.closure_model.specs.Tables.{Graph, table_of}
use Rattle.closure_model.specs.declared.derivation.Node.{Node}

-- the table of the least edges of nodes
abbrev pub table_in : Plan → List Node → Graph
table_in net nodes = table_of (shape_of net) (edges_of_nodes nodes)

-- nodes with their table
abbrev pub support_in : Plan → List Node → Support
support_in net nodes = record { nodes = nodes; table = table_in net nodes }
