use Rattle.std.proofs.Common.{◌≡◌, List, ap, ◌∙◌}
use Rattle.std.specs.Prelude.{filter}
use Rattle.std.proofs.lemmas.Result.{IfOk-weaker}
use Rattle.closure_model.specs.declared.derivation.Node.{Node}
use Rattle.edit_laws.specs.EditNumbers.{new_base_nodes}
use Rattle.example_references.specs.Marks.{is_new_base}
use Rattle.example_references.proofs.NewBaseLemmas.{new_base_are}
use Rattle.example_references.proofs.kept_nodes.new_base_nodes.Goals as goal

pub returns : goal.returns
returns c =
    let edited = c.args.edited.now in
    IfOk-weaker c.new_among.result (λ nodes. nodes.items ≡ filter (λ (node : Node). is_new_base edited node.rule) c.as_slice.result.now) (λ nodes. nodes.items ≡ new_base_nodes edited.before.now edited.edit.now edited.after.now)
    (λ nodes is. is ∙ (ap (λ (ns : List Node). filter (λ (node : Node). is_new_base edited node.rule) ns) (c.as_slice.ensures.value ∙ c.in_ok-base.ensures.nodes) ∙ new_base_are edited)) c.new_among.ensures
