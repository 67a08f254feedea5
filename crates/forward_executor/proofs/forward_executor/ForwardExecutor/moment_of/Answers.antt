use Rattle.std.proofs.Common.{◌<◌, ℕ, length, ap, sym, subst, ◌∙◌}
use Rattle.execution_model.specs.Feeds.{Execution}
use Rattle.forward_executor.proofs.forward_executor.ForwardExecutor.moment_of.Goals as goal

pub moment_of-requires : goal.moment_of-requires
moment_of-requires c =
    subst (λ (n : ℕ). c.args.point.0 < n) (ap (λ (e : Execution). length e.setting.dispatch) (sym c.self.view_is) ∙ c.self.invariant.count) c.requires
