use Rattle.network_closure.proofs.PartialClosureLemmas.{derivable_key}
use Rattle.network_closure.proofs.unsaturated_edges.cover.Goals as goal

pub goes_by-requires-clause-key : goal.goes_by-requires-clause-key
goes_by-requires-clause-key c =
    derivable_key c.args.net.now c.requires.partial_closure.plan c.args.edge.now (c.requires.partial_closure.derivable c.args.edge.now c.requires.edge) c.args.table.now c.requires.partial_closure.fits
