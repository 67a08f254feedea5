-- Each turn makes the acts of one moment.
use Rattle.std.proofs.Common.{◌≡◌, ◌++◌, ap, ◌∙◌}
use Rattle.net_model.specs.Moments.{Moments}
use Rattle.execution_model.specs.Execution.{acts_at, acted}
use Rattle.example_executions.proofs.TimeFacts.{run_on, acts_on}
use Rattle.example_executions.proofs.lists.TestLists.run.Goals as goal

pub loop-t-preserved : goal.loop-t-preserved
loop-t-preserved c =
    let setting = c.args.self.now in
    let t = c.loop-t.t in
    let before = c.loop-t.moments.items in
    let after : c.in_ok-moments.field-0.items ≡ acted setting before t = c.in_ok-moments.ensures ∙ ap (λ (m : Moments). acted setting m t) c.as_slice-in-loop-t.ensures.value in
    record {
      moments = c.loop-t.invariant.moments ∙ run_on setting t c.args.until c.loop-t-test.true before c.in_ok-moments.field-0.items after;
      acts = c.loop-t.invariant.acts ∙ acts_on setting t c.args.until c.loop-t-test.true before c.in_ok-moments.field-0.items c.loop-t.acts.items c.push_acts.new.acts.items after
          (c.in_ok-push_acts.ensures ∙ ap (λ (m : Moments). c.loop-t.acts.items ++ acts_at setting m t) c.as_slice.ensures.value);
    }
