use Rattle.std.proofs.Common.{sym, subst}
use Rattle.closure_model.specs.Derivable.{IsDerivable}
use Rattle.network_closure.specs.Progress.{Progress}
use Rattle.network_closure.proofs.PartialClosureLemmas.{derivable_key, derivable_size}
use Rattle.network_closure.proofs.relaxation.RelaxingRelaxable.may_improve.Goals as goal

pub improves_before-requires-clause-key : goal.improves_before-requires-clause-key
improves_before-requires-clause-key c = derivable_key c.self.inside.net.now c.self.invariant.plan c.args.edge.now (subst (λ (p : Progress (Unit {0})). IsDerivable p.net c.args.edge.now) (sym c.self.view_is) c.requires.edge) c.self.inside.table
    c.self.invariant.fits

pub improves_before-requires-clause-weight : goal.improves_before-requires-clause-weight
improves_before-requires-clause-weight c = derivable_size c.self.inside.net.now c.self.invariant.plan c.args.edge.now (subst (λ (p : Progress (Unit {0})). IsDerivable p.net c.args.edge.now) (sym c.self.view_is) c.requires.edge)
