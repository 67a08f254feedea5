use Rattle.network_closure.proofs.PartialClosureLemmas.{derivable_key, derivable_weight, lowered_is_partial_closure}
use Rattle.forward_closure.proofs.open_row.lower_to.Goals as goal

pub lower_to-requires-clause-key : goal.lower_to-requires-clause-key
lower_to-requires-clause-key c = derivable_key c.args.net.now c.requires.table.plan c.args.edge.now c.requires.edge c.args.table.now c.requires.table.fits

pub lower_to-requires-clause-weight : goal.lower_to-requires-clause-weight
lower_to-requires-clause-weight c = derivable_weight c.args.net.now c.requires.table.plan c.args.edge.now c.requires.edge

pub returns-in-Ok : goal.returns-in-Ok
returns-in-Ok c = lowered_is_partial_closure c.args.net.now c.args.table.now c.lower_to.new.self c.args.edge.now c.requires.table c.requires.edge c.in-Ok.ensures.lowered.1
