use Rattle.std.proofs.Common.{◌<◌, ℕ, length, ap, sym, subst, ◌∙◌}
use Rattle.std.specs.List.{All}
use Rattle.net_model.specs.declared.ids.PointId.{PointId}
use Rattle.execution_model.specs.Feeds.{Execution, IsFed}
use Rattle.forward_executor.specs.ForwardExecutions.{by_closure}
use Rattle.forward_executor.proofs.ForwardExecutorLemmas.{goes_on_alike, fed_stays}
use Rattle.forward_executor.proofs.forward_executor.ForwardExecutor.feed.Goals as goal

pub feed-requires : goal.feed-requires
feed-requires c =
    subst (λ (n : ℕ). All (λ (p : PointId). p.0 < n) c.args.completions.now)
    (ap (λ (e : Execution). length e.setting.dispatch) (sym c.self.view_is) ∙ c.self.invariant.count) c.requires

pub invariant_of-self : goal.invariant_of-self
invariant_of-self c = fed_stays c.self.inside.net.value c.self.inside.executor c.feed.new.self c.self.invariant c.args.moment c.args.completions.now c.feed.result c.feed.ensures.fed

pub returns : goal.returns
returns c =
    let alike = goes_on_alike c.law_ordered_forward_tables_are_controllable.ensures c.law_controllable_have_canonical_closures.ensures c.law_forward_executions_are_alike.ensures c.self.inside.net.value c.self.inside.executor c.self.invariant in
    record {
      fed = subst (λ (e : Execution). IsFed e c.args.moment c.args.completions.now c.feed.result (by_closure c.self.inside.net.value c.feed.new.self)) c.self.view_is
          (alike.fed c.args.moment c.args.completions.now c.feed.result c.feed.new.self c.feed.ensures.fed);
    }
