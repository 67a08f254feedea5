use Rattle.std.proofs.Common.{◌≡◌, length, sym, subst, ◌∙◌}
use Rattle.execution_model.specs.Feeds.{Execution}
use Rattle.forward_executor.proofs.forward_executor.ForwardExecutor.acts.Goals as goal

pub returns-clause-count : goal.returns-clause-count
returns-clause-count c = subst (λ (e : Execution). length e.moments ≡ length e.setting.dispatch) c.self.view_is (c.acts.ensures.count ∙ sym c.self.invariant.count)
