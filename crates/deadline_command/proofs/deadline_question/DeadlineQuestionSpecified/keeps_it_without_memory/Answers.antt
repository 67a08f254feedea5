use Rattle.std.proofs.Common.{inl}
use Rattle.command_engine.proofs.AnswersOnceLemmas.{wants_before_answer}
use Rattle.common_answers.specs.Faults.{refusing}
use Rattle.deadline_command.specs.DeadlineAnswers.{deadline_answers, deadline_start}
use Rattle.deadline_command.specs.Points.{points_reader}
use Rattle.deadline_command.proofs.deadline_question.DeadlineQuestionSpecified.keeps_it_without_memory.Goals as goal

pub returns : goal.returns
returns c = λ words input untaken put pieces breaks.
    inl (wants_before_answer deadline_answers points_reader refusing words (deadline_start words).text input untaken put pieces breaks)
