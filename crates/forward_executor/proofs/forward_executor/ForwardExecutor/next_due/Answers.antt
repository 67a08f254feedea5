use Rattle.std.proofs.Common.{subst}
use Rattle.execution_model.specs.Feeds.{Execution, IsDueAnswer}
use Rattle.forward_executor.proofs.ForwardExecutorLemmas.{due_alike}
use Rattle.forward_executor.proofs.forward_executor.ForwardExecutor.next_due.Goals as goal

pub returns : goal.returns
returns c =
    subst (λ (e : Execution). IsDueAnswer e c.next_due.result) c.self.view_is
    (due_alike c.law_ordered_forward_tables_are_controllable.ensures c.law_controllable_have_canonical_closures.ensures c.law_forward_executions_are_alike.ensures c.self.inside.net.value c.self.inside.executor c.next_due.result
    c.self.invariant c.next_due.ensures)
