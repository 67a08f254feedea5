use Rattle.network_closure.proofs.PartialClosureLemmas.{derivable_weight}
use Rattle.network_closure.proofs.ConsequenceLemmas.{over_lower, over_cross}
use Rattle.network_closure.proofs.consequences.over_this_link.Goals as goal

pub lower_case-requires-clause-second : goal.lower_case-requires-clause-second
lower_case-requires-clause-second c = derivable_weight c.args.net.now c.sound.ensures c.args.edge.now c.requires.edge

pub cross_case-requires-clause-second : goal.cross_case-requires-clause-second
cross_case-requires-clause-second c = derivable_weight c.args.net.now c.sound.ensures c.args.edge.now c.requires.edge

pub returns-in-None : goal.returns-in-None
returns-in-None c = over_lower c.args.net.now c.sound.ensures c.args.edge.now c.args.link c.lower_case.result c.requires.edge c.requires.link c.in-None.is c.lower_case.ensures.exact

pub returns-in-Some : goal.returns-in-Some
returns-in-Some c = over_cross c.args.net.now c.sound.ensures c.args.edge.now c.args.link c.in-Some.field-0 c.cross_case.result c.requires.edge c.requires.link c.in-Some.is c.cross_case.ensures.exact
