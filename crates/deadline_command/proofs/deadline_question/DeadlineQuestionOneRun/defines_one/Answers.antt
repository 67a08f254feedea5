use Rattle.common_answers.specs.Faults.{refusing}
use Rattle.command_contracts.specs.Programs.{or_nothing}
use Rattle.command_contracts.proofs.ProgramLemmas.{answers_once_defines_one}
use Rattle.deadline_command.specs.DeadlineAnswers.{deadline_answers, deadline_start}
use Rattle.deadline_command.specs.DeadlinePromise.{DeadlinePromise, deadline_causes}
use Rattle.deadline_command.specs.Points.{points_reader}
use Rattle.deadline_command.proofs.DeadlineAnswerLemmas.{deadline_answers_once}
use Rattle.deadline_command.proofs.deadline_question.DeadlineQuestionOneRun.defines_one.Goals as goal

pub returns : goal.returns
returns c = record { each = λ words. answers_once_defines_one deadline_answers points_reader refusing (deadline_start words) (or_nothing (deadline_causes words) (DeadlinePromise words)) deadline_answers_once }
