use Rattle.std.proofs.Common.{sym, subst}
use Rattle.closure_model.specs.Derivable.{IsDerivable}
use Rattle.network_closure.specs.Progress.{Progress}
use Rattle.network_closure.proofs.PartialClosureLemmas.{derivable_key, derivable_size, lowered_is_partial_closure}
use Rattle.network_closure.proofs.ProgressLemmas.{goes_on, leaves_less}
use Rattle.network_closure.proofs.relaxation.RelaxingRelaxable.lower_to.Goals as goal

pub lower_to-requires-clause-key : goal.lower_to-requires-clause-key
lower_to-requires-clause-key c = derivable_key c.self.inside.net.now c.self.invariant.plan c.args.edge.now (subst (λ (p : Progress (Unit {0})). IsDerivable p.net c.args.edge.now) (sym c.self.view_is) c.requires) c.self.inside.table
    c.self.invariant.fits

pub lower_to-requires-clause-weight : goal.lower_to-requires-clause-weight
lower_to-requires-clause-weight c = derivable_size c.self.inside.net.now c.self.invariant.plan c.args.edge.now (subst (λ (p : Progress (Unit {0})). IsDerivable p.net c.args.edge.now) (sym c.self.view_is) c.requires)

pub invariant_of-self : goal.invariant_of-self
invariant_of-self c = lowered_is_partial_closure c.self.inside.net.now c.self.inside.table c.lower_to.new.self c.args.edge.now c.self.invariant
    (subst (λ (p : Progress (Unit {0})). IsDerivable p.net c.args.edge.now) (sym c.self.view_is) c.requires) c.lower_to.ensures.lowered

pub returns-clause-goes_on : goal.returns-clause-goes_on
returns-clause-goes_on c = goes_on c.self.inside.net.now c.self.inside.table c.lower_to.new.self c.args.self.now c.self.view_is c.args.edge.now c.lower_to.result (record {
  partial_closure = c.self.invariant;
  derivable = subst (λ (p : Progress (Unit {0})). IsDerivable p.net c.args.edge.now) (sym c.self.view_is) c.requires;
  improved_is = c.lower_to.ensures.improved;
  lowered_is = c.lower_to.ensures.lowered;
})

pub returns-clause-improved : goal.returns-clause-improved
returns-clause-improved c = leaves_less c.self.inside.net.now c.self.inside.table c.lower_to.new.self c.args.self.now c.self.view_is c.args.edge.now c.lower_to.result (record {
  partial_closure = c.self.invariant;
  derivable = subst (λ (p : Progress (Unit {0})). IsDerivable p.net c.args.edge.now) (sym c.self.view_is) c.requires;
  improved_is = c.lower_to.ensures.improved;
  lowered_is = c.lower_to.ensures.lowered;
})
