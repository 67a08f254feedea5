use Rattle.std.proofs.Common.{subst}
use Rattle.execution_model.specs.Feeds.{Execution, IsFinished}
use Rattle.forward_executor.specs.ForwardExecutions.{by_closure}
use Rattle.forward_executor.proofs.ForwardExecutorLemmas.{goes_on_alike, finished_stays}
use Rattle.forward_executor.proofs.forward_executor.ForwardExecutor.finish.Goals as goal

pub invariant_of-self : goal.invariant_of-self
invariant_of-self c = finished_stays c.self.inside.net.value c.self.inside.executor c.finish.new.self c.self.invariant c.finish.result c.finish.ensures.finished

pub returns : goal.returns
returns c =
    let alike = goes_on_alike c.law_ordered_forward_tables_are_controllable.ensures c.law_controllable_have_canonical_closures.ensures c.law_forward_executions_are_alike.ensures c.self.inside.net.value c.self.inside.executor c.self.invariant in
    record {
      finished = subst (λ (e : Execution). IsFinished e c.finish.result (by_closure c.self.inside.net.value c.finish.new.self)) c.self.view_is
          (alike.finished c.finish.result c.finish.new.self c.finish.ensures.finished);
    }
