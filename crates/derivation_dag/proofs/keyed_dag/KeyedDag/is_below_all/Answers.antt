use Rattle.std.proofs.Common.{◌≡◌, Some, sym, subst, ◌∙◌}
use Rattle.std.proofs.lemmas.Option.{slice_get_within}
use Rattle.closure_model.specs.Keys.{key_of}
use Rattle.closure_model.specs.Derivations.{node_at, IsNewest}
use Rattle.closure_model.specs.declared.derivation.Node.{Node}
use Rattle.std.proofs.Common.{List, None}
use Rattle.derivation_dag.proofs.NumberLemmas.{below_none, below_first, below_or_held}
use Rattle.derivation_dag.proofs.keyed_dag.KeyedDag.is_below_all.Goals as goal

pub returns-in_default : goal.returns-in_default
returns-in_default c =
    let none : c.get.result ≡ None = search in
    let newest = subst (λ (nodes : List Node). IsNewest nodes (key_of c.args.edge.now) c.get.result) c.self.view_is (subst (IsNewest c.self.inside.dag (key_of c.args.edge.now)) (sym c.get.ensures) (c.self.invariant (key_of c.args.edge.now))) in
    below_none c.args.self.now c.args.edge.now (subst (IsNewest c.args.self.now (key_of c.args.edge.now)) none newest)

pub returns-then-id-first : goal.returns-then-id-first
returns-then-id-first c =
    let newest = subst (λ (nodes : List Node). IsNewest nodes (key_of c.args.edge.now) c.get.result) c.self.view_is (subst (IsNewest c.self.inside.dag (key_of c.args.edge.now)) (sym c.get.ensures) (c.self.invariant (key_of c.args.edge.now))) in
    below_first c.args.self.now c.args.edge.now c.in-Some.id c.args.first (subst (IsNewest c.args.self.now (key_of c.args.edge.now)) c.in-Some.is newest) c.if-id-first.true c.requires

pub node-requires : goal.node-requires
node-requires c =
    let newest = subst (IsNewest c.self.inside.dag (key_of c.args.edge.now)) (sym c.get.ensures ∙ c.in-Some.is) (c.self.invariant (key_of c.args.edge.now)) in
    slice_get_within c.self.inside.dag c.in-Some.id.0 newest.node newest.here

pub returns : goal.returns
returns c =
    let newest = subst (IsNewest c.self.inside.dag (key_of c.args.edge.now)) (sym c.get.ensures ∙ c.in-Some.is) (c.self.invariant (key_of c.args.edge.now)) in
    let here = subst (λ nodes. node_at nodes c.in-Some.id ≡ Some c.node.result.now) c.self.view_is c.node.ensures in
    below_or_held c.args.self.now c.args.edge.now c.in-Some.id c.node.result.now (subst (λ (nodes : List Node). IsNewest nodes (key_of c.args.edge.now) (Some c.in-Some.id)) c.self.view_is newest) here c.is_below.result c.is_below.ensures
