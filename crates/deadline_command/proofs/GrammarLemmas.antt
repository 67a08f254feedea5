-- The input of `deadline` is read by its grammar.
use Rattle.command_engine.specs.Grammars.{ReadsBy}
use Rattle.command_engine.proofs.TestedTextLemmas.{tested_by}
use Rattle.input_texts.specs.PlanInput.{in_notation, initial_input, input_reader, plan_in}
use Rattle.input_texts.proofs.PlanInputLemmas.{input_by}
use Rattle.deadline_command.specs.DeadlineAnswers.{deadline_start}
use Rattle.deadline_command.specs.Points.{point_tests, points_in, points_reader}
use Rattle.deadline_command.specs.declared.points.DeadlineWords.{DeadlineWords}

pub points_by_grammar : (words : DeadlineWords) → ReadsBy points_reader (deadline_start words).text 0 (points_in words)
points_by_grammar words =
    let form = in_notation words.notation in
    tested_by input_reader point_tests words (initial_input form) 0 (plan_in form) (input_by form 0)
