use Rattle.std.proofs.Common.{◌≡◌, ◌*◌}
use Rattle.situation_player.specs.Generator.{state_after}
use Rattle.situation_player.specs.Tasks.{tasks_drawn}
use Rattle.situation_player.proofs.tasks.draw_tasks.Given as goal

abbrev pub invariant-loop : goal.invariant-loop
invariant-loop l = record {
  tasks : l.tasks.items ≡ tasks_drawn l.fn.generator.state l.counter;
  state : l.generator.state ≡ state_after l.fn.generator.state (5 * l.counter);
}
