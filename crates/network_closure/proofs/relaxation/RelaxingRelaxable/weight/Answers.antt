use Rattle.std.proofs.Common.{rules, Some, sym, subst}
use Rattle.std.specs.Prelude.{IfSome}
use Rattle.closure_model.specs.Derivable.{IsDerivableFor}
use Rattle.closure_model.specs.Keys.{IsLabelAt, Shape, ordinary_key, labelled_key, shape_of}
use Rattle.network_closure.specs.Progress.{Progress}
use Rattle.network_closure.proofs.PartialClosureLemmas.{derivable_at}
use Rattle.network_closure.proofs.relaxation.RelaxingRelaxable.weight.Goals as goal
use Rattle.network_closure.proofs.relaxation.RelaxingRelaxable.weight.Goals.{in-None, in-Some}

pub returns-clause-derivable : goal.returns-clause-derivable
returns-clause-derivable c = elim c.match-label.branch [
  | in-None w ↦ (let d = subst (λ (p : Progress (Unit {0})). IfSome w.weight.result (IsDerivableFor p.net (ordinary_key c.args.from c.args.to))) c.self.view_is
      (derivable_at c.self.inside.net.now c.self.inside.table (ordinary_key c.args.from c.args.to) w.weight.result c.self.invariant.derivable w.weight.ensures) in search rules)
  | in-Some w ↦ (let key = labelled_key c.args.from c.args.to w.in-Some.link in
      let begins = subst (λ (s : Shape). IsLabelAt s c.args.to (Some w.in-Some.link)) (sym c.self.invariant.fits)
      (subst (λ (p : Progress (Unit {0})). IsLabelAt (shape_of p.net) c.args.to (Some w.in-Some.link)) (sym c.self.view_is)
      (subst (IsLabelAt (shape_of c.args.self.now.net) c.args.to) w.in-Some.is c.requires.label)) in
      let d = subst (λ (p : Progress (Unit {0})). IfSome w.upper.result (IsDerivableFor p.net key)) c.self.view_is
      (derivable_at c.self.inside.net.now c.self.inside.table key w.upper.result c.self.invariant.derivable (w.upper.ensures c.args.to begins)) in search rules)
]
