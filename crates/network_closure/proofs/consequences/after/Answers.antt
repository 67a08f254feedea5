use Rattle.network_closure.proofs.PartialClosureLemmas.{derivable_weight}
use Rattle.network_closure.proofs.ConsequenceLemmas.{after_ordinary, after_labelled}
use Rattle.network_closure.proofs.consequences.after.Goals as goal

pub no_case-requires-clause-first : goal.no_case-requires-clause-first
no_case-requires-clause-first c = derivable_weight c.args.net.now c.sound.ensures c.args.first.now c.requires.first

pub no_case-requires-clause-second : goal.no_case-requires-clause-second
no_case-requires-clause-second c = derivable_weight c.args.net.now c.sound.ensures c.args.edge.now c.requires.edge

pub upper_case-requires-clause-first : goal.upper_case-requires-clause-first
upper_case-requires-clause-first c = derivable_weight c.args.net.now c.sound.ensures c.args.first.now c.requires.first

pub upper_case-requires-clause-second : goal.upper_case-requires-clause-second
upper_case-requires-clause-second c = derivable_weight c.args.net.now c.sound.ensures c.args.edge.now c.requires.edge

pub returns-in-None : goal.returns-in-None
returns-in-None c = after_ordinary c.args.net.now c.args.first.now c.args.edge.now c.no_case.result c.requires.first c.requires.edge c.in-None.is c.no_case.ensures.exact

pub returns-in-Some : goal.returns-in-Some
returns-in-Some c = after_labelled c.args.net.now c.args.first.now c.args.edge.now c.in-Some.field-0 c.upper_case.result c.requires.first c.requires.edge c.in-Some.is c.upper_case.ensures.exact
