-- A list of nodes as data.
use Rattle.std.specs.Prelude.{List}
use Rattle.std.specs.Coded.{Coded, coded_list}
use Rattle.closure_model.specs.declared.derivation.Node.{Node}
use Rattle.closure_model.specs.contracts.derivation.Node as node

-- a list of nodes as data
abbrev pub nodes_code : Coded (List Node)
nodes_code = coded_list node.the_row.coded
