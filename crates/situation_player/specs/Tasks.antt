-- The tasks that are drawn for a forged network.
use Rattle.std.specs.Prelude.{ℕ, ◌+◌, ◌*◌, ◌≤◌, ◌<◌, List, map}
use Rattle.std.specs.List.{range_with_len}
use Rattle.situation_player.specs.Generator.{state_after, drawn}
use Rattle.situation_player.specs.declared.tasks.Task.{Task}

-- a task is drawn from a state by five draws: its shortest duration, how much longer its longest one is, its slack, and how early and how
-- late its watch may be
abbrev pub task_from : ℕ → Task
task_from state = record {
  low = 1 + drawn (state_after state 1) 20;
  high = 1 + drawn (state_after state 1) 20 + drawn (state_after state 2) 20;
  slack = drawn (state_after state 3) 10;
  early = drawn (state_after state 4) 20;
  late = drawn (state_after state 5) 5;
}

-- the tasks that are drawn one after another
abbrev pub tasks_drawn : (start count : ℕ) → List Task
tasks_drawn start count = map (λ k. task_from (state_after start (5 * k))) (range_with_len 0 count)

-- by how much the deadline is cut, which is drawn after the tasks
abbrev pub cut_drawn : (start count : ℕ) → ℕ
cut_drawn start count = drawn (state_after start (5 * count + 1)) 2

-- how great the numbers of a drawn task are
pub record IsSmall (task : Task) : Type 0 where
  pub low : 1 ≤ task.low
  pub interval : task.low ≤ task.high
  pub high : task.high < 40
  pub slack : task.slack < 10
  pub early : task.early < 20
  pub late : task.late < 5
