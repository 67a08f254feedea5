use Rattle.std.proofs.Common.{refl, sym}
use Rattle.network_closure.proofs.PartialClosureLemmas.{derivable_is}
use Rattle.network_closure.proofs.ConsequenceLemmas.{over_none}
use Rattle.network_closure.proofs.consequences.over_link.Goals as goal

pub activation-requires : goal.activation-requires
activation-requires c = (derivable_is c.args.net.now c.sound.ensures c.args.edge.now c.requires).from_point

pub returns-in-None : goal.returns-in-None
returns-in-None c = over_none c.args.net.now c.sound.ensures c.args.edge.now _ (sym c.in-None.ensures) refl
