use Rattle.closure_model.specs.Derivable.{IsDerivable}
use Rattle.network_closure.proofs.ConsequenceLemmas.{given_if}
use Rattle.network_closure.proofs.PartialClosureLemmas.{derivable_key}
use Rattle.forward_closure.proofs.forward_test.has_given.Goals as goal

pub has_at_most-requires : goal.has_at_most-requires
has_at_most-requires c =
    derivable_key c.args.net.now c.requires.partial_closure.plan c.in-Some.edge (given_if (IsDerivable c.args.net.now) c.args.given c.in-Some.edge c.requires.given c.in-Some.is) c.args.table.now c.requires.partial_closure.fits
