use Rattle.std.proofs.Common.{ap, sym, ◌∙◌, arith}
use Rattle.dispatch_net.specs.declared.dispatch.Conditions.{Conditions}
use Rattle.dispatch_net.specs.Dispatchable.{conditions_at}
use Rattle.execution_model.specs.Execution.{Setting}
use Rattle.example_executions.proofs.ListFacts.{inside, past}
use Rattle.example_executions.proofs.lists.TestLists.lower_bounds.Goals as goal

pub lower_bounds-requires : goal.lower_bounds-requires
lower_bounds-requires c =
    let kept = c.self.inside in
    inside (record { links = kept.links.items; dispatch = kept.dispatch.kept }) kept.points.items c.args.point.0 c.self.invariant (omega arith)

pub returns-else-point-len : goal.returns-else-point-len
returns-else-point-len c =
    let kept = c.self.inside in
    let none = past (record { links = kept.links.items; dispatch = kept.dispatch.kept }) kept.points.items c.args.point c.self.invariant (omega arith) in
    c.as_slice.ensures ∙ sym (ap (λ (setting : Setting). (conditions_at setting.dispatch c.args.point).lower_bounds) (sym c.self.view_is) ∙ ap (λ (conditions : Conditions). conditions.lower_bounds) none)
