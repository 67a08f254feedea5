use Rattle.std.proofs.Common.{◌≡◌, ◌∙◌, subst, arith}
use Rattle.std.proofs.lemmas.Grind.{common_steps}
use Rattle.std.proofs.lemmas.Result.{IfOk-weaker}
use Rattle.closure_model.specs.Derivations.{AreAncestors}
use Rattle.derivation_dag.specs.Marks.{AreMarked}
use Rattle.derivation_dag.proofs.dag.Dag.ancestors.Goals as goal

pub returns : goal.returns
returns c =
    let whole : c.as_slice.result.now ≡ c.mark_ancestors.new.marks = grind (arith, common_steps) in
    let nodes : c.as_slice-nodes.result.now ≡ c.args.self.now = c.as_slice-nodes.ensures.value ∙ c.self.view_is in
    IfOk-weaker c.marked.result (λ found. AreMarked c.as_slice.result.now found.items) (λ found. AreAncestors c.args.self.now c.args.ids.now found.items)
    (λ found are. subst (λ all. AreAncestors all c.args.ids.now found.items) nodes (c.mark_ancestors.ensures found.items (subst (λ marks. AreMarked marks found.items) whole are)))
    c.marked.ensures
