use Rattle.std.proofs.Common.{List, ℕ, [], ◌∷◌, ◌++◌, ◌∙◌, ap, sym}
use Rattle.situation_player.specs.Generator.{state_after}
use Rattle.situation_player.specs.Tasks.{task_from, tasks_drawn}
use Rattle.situation_player.specs.declared.tasks.Task.{Task}
use Rattle.situation_player.proofs.TaskLemmas.{tasks_more, states_more}
use Rattle.situation_player.proofs.tasks.draw_tasks.Goals as goal

pub loop-preserved : goal.loop-preserved
loop-preserved c = record {
  tasks =
      c.in_ok-push.ensures.items ∙ ap (λ (tasks : List Task). tasks ++ c.draw.result ∷ []) c.loop.invariant.tasks
      ∙ ap (λ (task : Task). tasks_drawn c.args.generator.now.state c.loop.counter ++ task ∷ []) (c.draw.ensures.task ∙ ap task_from c.loop.invariant.state)
      ∙ sym (tasks_more c.args.generator.now.state c.loop.counter);
  state = c.draw.ensures.state ∙ ap (λ (s : ℕ). state_after s 5) c.loop.invariant.state ∙ states_more c.args.generator.now.state c.loop.counter;
}
