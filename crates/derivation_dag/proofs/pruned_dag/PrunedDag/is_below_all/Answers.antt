use Rattle.std.proofs.Common.{◌≡◌, List, None, sym, subst}
use Rattle.closure_model.specs.Keys.{key_of}
use Rattle.closure_model.specs.Derivations.{IsNewest}
use Rattle.closure_model.specs.declared.derivation.Node.{Node}
use Rattle.derivation_dag.proofs.NumberLemmas.{below_none, below_first, below_or_held}
use Rattle.derivation_dag.proofs.pruned_dag.PrunedDag.is_below_all.Goals as goal

pub returns-in_default : goal.returns-in_default
returns-in_default c =
    let none : c.get.result ≡ None = search in
    let newest = subst (λ (nodes : List Node). IsNewest nodes (key_of c.args.edge.now) c.get.result) c.self.view_is (subst (IsNewest c.self.inside.whole.nodes (key_of c.args.edge.now)) (sym c.get.ensures) (c.self.invariant.newest (key_of c.args.edge.now))) in
    below_none c.args.self.now c.args.edge.now (subst (IsNewest c.args.self.now (key_of c.args.edge.now)) none newest)

pub returns-then-id-first : goal.returns-then-id-first
returns-then-id-first c =
    let newest = subst (λ (nodes : List Node). IsNewest nodes (key_of c.args.edge.now) c.get.result) c.self.view_is (subst (IsNewest c.self.inside.whole.nodes (key_of c.args.edge.now)) (sym c.get.ensures) (c.self.invariant.newest (key_of c.args.edge.now))) in
    below_first c.args.self.now c.args.edge.now c.in-Some.id c.args.first (subst (IsNewest c.args.self.now (key_of c.args.edge.now)) c.in-Some.is newest) c.if-id-first.true c.requires

pub returns : goal.returns
returns c =
    let newest = subst (λ (nodes : List Node). IsNewest nodes (key_of c.args.edge.now) c.get.result) c.self.view_is (subst (IsNewest c.self.inside.whole.nodes (key_of c.args.edge.now)) (sym c.get.ensures) (c.self.invariant.newest (key_of c.args.edge.now))) in
    below_or_held c.args.self.now c.args.edge.now c.in-Some.id c.in_ok-node.node.now (subst (IsNewest c.args.self.now (key_of c.args.edge.now)) c.in-Some.is newest) c.in_ok-node.ensures c.is_below.result c.is_below.ensures
