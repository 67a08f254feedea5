use Rattle.common_answers.specs.Faults.{refusing}
use Rattle.command_contracts.specs.PlanQuestions.{initial_question}
use Rattle.input_texts.specs.PlanInput.{input_reader, plan_in}
use Rattle.command_contracts.specs.Causes.{text_causes}
use Rattle.command_contracts.specs.Programs.{or_nothing}
use Rattle.command_contracts.proofs.ProgramLemmas.{answers_once_defines_one}
use Rattle.command_contracts.proofs.plan_questions.AnyOneRun.defines_one.Goals as goal

pub returns : goal.returns
returns g c = record {
  each = λ question. answers_once_defines_one g.Q.Question.answers input_reader refusing (initial_question g.Q.PlanQuestion.form question)
      (or_nothing (text_causes (plan_in (g.Q.PlanQuestion.form question))) (g.Q.PlanQuestion.promised question)) c.answers_once.ensures;
}
