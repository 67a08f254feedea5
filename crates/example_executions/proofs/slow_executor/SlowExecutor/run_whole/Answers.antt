-- If each point has come, the execution is whole.
use Rattle.std.proofs.Common.{◌≡◌, ◌++◌, ◌-◌, length, arith, refl, ap, sym, subst, ◌∙◌}
use Rattle.std.specs.Prelude.{IsSome}
use Rattle.std.specs.List.{All}
use Rattle.execution_model.proofs.MomentLemmas.{length-points}
use Rattle.net_model.specs.Moments.{Moments}
use Rattle.execution_model.specs.Execution.{time_runs, acts_while}
use Rattle.execution_model.specs.Feeds.{Execution, next_moment, last_of, IsWhole}
use Rattle.example_executions.proofs.TimeFacts.{whole_by}
use Rattle.example_executions.proofs.slow_executor.SlowExecutor.run_whole.Goals as goal

pub returns-clause-whole : goal.returns-clause-whole
returns-clause-whole c =
    λ done.
    let kept = c.self.inside in
    let setting = kept.lists in
    let count = c.args.end - c.args.from in
    let long : length kept.moments.items ≡ length setting.dispatch = omega (arith, ap length c.points.ensures, length-points setting) in
    let copied : c.in_ok-moments.moments.items ≡ kept.moments.items = c.in_ok-moments.ensures.items ∙ c.as_slice.ensures.value in
    let runs : c.run.new.moments.items ≡ time_runs setting kept.moments.items c.args.from count = c.in_ok-run.ensures.moments ∙ ap (λ (m : Moments). time_runs setting m c.args.from count) copied in
    let makes : c.run.new.acts.items ≡ acts_while setting kept.moments.items c.args.from count =
    c.in_ok-run.ensures.acts ∙ (λ i. c.new-acts.ensures.items i ++ acts_while setting (copied i) c.args.from count) in
    subst (λ (e : Execution). IsWhole e (record { setting = setting; moments = c.run.new.moments.items; last = c.last_of-self-inside.result; acts = c.run.new.acts.items; refused = kept.refused })) c.self.view_is
    (whole_by setting kept.moments.items c.run.new.moments.items kept.last c.last_of-self-inside.result kept.acts.items c.run.new.acts.items kept.refused c.args.from count (c.requires ∙ ap next_moment (sym c.self.view_is))
    (record {
      long = long;
      runs = runs;
      makes = makes;
      latest_is = c.last_of-self-inside.ensures ∙ ap (last_of kept.last) c.as_slice-3.ensures.value;
      come = subst (All IsSome) c.as_slice-2.ensures.value (c.if-not-all_have_come.ensures refl);
    }))
