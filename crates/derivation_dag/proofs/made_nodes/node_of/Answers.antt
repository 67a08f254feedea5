-- The node that a list finds is the one of the definition.
use Rattle.std.proofs.Common.{sym}
use Rattle.closure_model.proofs.RoundLaw.{node_for_is}
use Rattle.derivation_dag.proofs.made_nodes.node_of.Goals as goal

pub returns : goal.returns
returns g c = sym (node_for_is (g.L.NodeList.nodes c.args.list.now) c.args.edge.now c.newest.result c.newest.ensures)
