use Rattle.network_closure.proofs.PartialClosureLemmas.{derivable_key}
use Rattle.network_closure.proofs.unsaturated_edges.is_saturated.Goals as goal

pub weight_at-requires : goal.weight_at-requires
weight_at-requires c = derivable_key c.args.net.now c.requires.partial_closure.plan c.args.edge.now c.requires.edge c.args.table.now c.requires.partial_closure.fits
