use Rattle.std.proofs.Common.{refl, subst}
use Rattle.execution_model.specs.Feeds.{Execution, IsDueAnswer}
use Rattle.live_executor.specs.Sound.{KeptNetwork, made_setting}
use Rattle.live_executor.proofs.ExecutorLemmas.{next_due_is, due_answer}
use Rattle.live_executor.proofs.executor.Executor.next_due.Goals as goal

pub returns-in-None : goal.returns-in-None
returns-in-None c =
    let kept = c.self.inside in
    let network : KeptNetwork = kept.dispatched in
    let seen : Execution = record { setting = made_setting network; moments = kept.state.moments; last = kept.last; acts = kept.acts.items; refused = kept.refused } in
    subst (λ (e : Execution). IsDueAnswer e c.next_due.result) c.self.view_is
    (due_answer seen c.next_due.result c.in-None.is
    (next_due_is network c.executes_the_same.ensures seen kept.state refl refl (c.self.invariant.goes_on c.in-None.is).stands c.next_due.result c.next_due.ensures))
