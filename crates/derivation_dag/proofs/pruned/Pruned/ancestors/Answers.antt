use Rattle.std.proofs.Common.{◌≡◌, ap, subst, sym}
use Rattle.closure_model.specs.Derivations.{Support}
use Rattle.derivation_dag.specs.Pruned.{AreNumbered, AreAncestorsIn}
use Rattle.derivation_dag.proofs.pruned.Pruned.ancestors.Goals as goal

pub returns-then-branch : goal.returns-then-branch
returns-then-branch c =
    let found : c.as_slice.result.now ≡ c.in_ok-found.found.items = c.as_slice.ensures.value in
    let list : c.self.inside.list ≡ c.args.self.now.nodes = ap (λ (s : Support). s.nodes) c.self.view_is in
    let numbered = subst (AreNumbered c.self.inside.list) (sym found) c.in_ok-found.ensures in
    let are = c.in_ok-are_ancestors.ensures c.if-branch.true c.self.inside.list numbered in
    subst (λ nodes. AreAncestorsIn nodes c.args.ids.now c.in_ok-found.found.items) list (subst (AreAncestorsIn c.self.inside.list c.args.ids.now) found are)
