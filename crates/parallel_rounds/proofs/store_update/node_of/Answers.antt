-- The node that a store finds is the one of the definition.
use Rattle.std.proofs.Common.{sym}
use Rattle.closure_model.proofs.RoundLaw.{node_for_is}
use Rattle.parallel_rounds.proofs.store_update.node_of.Goals as goal

pub returns : goal.returns
returns g c = sym (node_for_is (g.S.Supports.support c.args.store.now).nodes c.args.edge.now c.newest.result c.newest.ensures.newest)
