-- The parts of a forged network: tasks one after another, each with a watch near its end, up to a deadline.
use Rattle.std.specs.Prelude.{ℕ, Bool, false, pos, ◌+◌, ◌-◌, ◌-ℤ◌, List, [], ◌∷◌, ◌++◌, length, take, map, sum, codes}
use Rattle.std.specs.Fmt.{decimal}
use Rattle.net_model.specs.Names.{is_letter}
use Rattle.net_model.specs.declared.part.Part.{Part}
use Rattle.net_model.specs.declared.part.Part.TheVariants as part
use Rattle.situation_player.specs.Tasks.{tasks_drawn, cut_drawn}
use Rattle.situation_player.specs.declared.tasks.Task.{Task}

-- the greatest number of tasks of a forged network
abbrev pub most_tasks : ℕ
most_tasks = 333

-- a text that is one letter
abbrev pub is_one_letter : List ℕ → Bool
is_one_letter [] = false
is_one_letter (b ∷ []) = is_letter b
is_one_letter (b ∷ c ∷ bs) = false

-- the names of a task's start, its end and its watch
abbrev pub start_name : ℕ → List ℕ
start_name i = codes "s" ++ decimal i

abbrev pub end_name : ℕ → List ℕ
end_name i = codes "e" ++ decimal i

abbrev pub watch_name : ℕ → List ℕ
watch_name i = codes "w" ++ decimal i

-- the points of a task
abbrev pub task_points : ℕ → List Part
task_points i = part.Point (start_name i) ∷ part.Point (end_name i) ∷ part.Point (watch_name i) ∷ []

-- the link of a task, and the bounds of its watch: the end comes so early at most before it and so late at most after it
abbrev pub task_parts : ℕ → Task → List Part
task_parts i task =
    part.Link (start_name i) (pos task.low) (pos task.high) (end_name i)
    ∷ part.Bound (codes "v" ++ decimal i) (watch_name i) (end_name i) (pos task.early)
    ∷ part.Bound (codes "u" ++ decimal i) (end_name i) (watch_name i) (pos task.late)
    ∷ []

-- the bounds from a task to the next one, which starts no sooner than its end and within its slack
abbrev pub next_parts : ℕ → Task → List Part
next_parts i task =
    part.Bound (codes "g" ++ decimal i) (start_name (i + 1)) (end_name i) (pos 0)
    ∷ part.Bound (codes "h" ++ decimal i) (end_name i) (start_name (i + 1)) (pos task.slack)
    ∷ []

-- the parts of each task, the first of which has this number
abbrev pub parts_from : (ℕ → Task → List Part) → ℕ → List Task → List Part
parts_from parts i [] = []
parts_from parts i (task ∷ tasks) = parts i task ++ parts_from parts (i + 1) tasks

-- the deadline: from the first start to the last end, the longest durations together less the cut
abbrev pub deadline_part : List Task → (cut : ℕ) → Part
deadline_part tasks cut =
    part.Bound (codes "dl") (start_name 1) (end_name (length tasks)) (pos (sum (map (λ (task : Task). task.high) tasks)) -ℤ pos cut)

-- the parts of tasks: their points, their links with the bounds of their watches, the bounds from each task to the next, and the deadline
abbrev pub parts_of_tasks : List Task → (cut : ℕ) → List Part
parts_of_tasks tasks cut =
    parts_from (λ i task. task_points i) 1 tasks
    ++ (parts_from task_parts 1 tasks ++ (parts_from next_parts 1 (take (length tasks - 1) tasks) ++ deadline_part tasks cut ∷ []))

-- the parts of a forged network
abbrev pub forged_parts : (start count : ℕ) → List Part
forged_parts start count = parts_of_tasks (tasks_drawn start count) (cut_drawn start count)
