use Rattle.network_closure.proofs.PartialClosureLemmas.{derivable_weight}
use Rattle.network_closure.proofs.ConsequenceLemmas.{label_known, without_label_derivable}
use Rattle.network_closure.proofs.consequences.without_label.Goals as goal

pub removal-requires-clause-known : goal.removal-requires-clause-known
removal-requires-clause-known c = label_known c.args.net.now c.sound.ensures c.args.edge.now c.requires

pub removal-requires-clause-weight : goal.removal-requires-clause-weight
removal-requires-clause-weight c = derivable_weight c.args.net.now c.sound.ensures c.args.edge.now c.requires

pub returns-clause-derivable : goal.returns-clause-derivable
returns-clause-derivable c = without_label_derivable c.args.net.now c.args.edge.now c.removal.result c.requires c.removal.ensures.exact
