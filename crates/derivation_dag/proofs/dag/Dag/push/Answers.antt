use Rattle.std.proofs.Common.{subst, sym}
use Rattle.closure_model.specs.Derivations.{IsGiven, PremisesStandEarlier}
use Rattle.closure_model.proofs.DerivedNodes.{given_earlier, earlier_pushed}
use Rattle.derivation_dag.proofs.dag.Dag.push.Goals as goal

pub invariant_of-self-2 : goal.invariant_of-self-2
invariant_of-self-2 c =
    subst PremisesStandEarlier (sym c.in_ok-push.ensures.items) (earlier_pushed c.self.inside.nodes.items c.args.node c.self.invariant
    (given_earlier c.args.net.now c.self.inside.nodes.items c.args.node (subst (λ nodes. IsGiven c.args.net.now nodes c.args.node) (sym c.self.view_is) c.requires)))
