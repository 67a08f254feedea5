use Rattle.input_texts.specs.PlanInput.{plan_in}
use Rattle.command_contracts.proofs.CauseLemmas.{text_ends}
use Rattle.command_contracts.proofs.PlanQuestionLemmas.{question_keeps}
use Rattle.command_contracts.proofs.plan_questions.AnySpecified.ends_by_its_causes.Goals as goal

pub returns : goal.returns
returns g c = λ question holds input put end runs.
    text_ends (plan_in (g.Q.PlanQuestion.form question)) (g.Q.PlanQuestion.puts question) (c.ends_by_an_answer.ensures question) input put end
    (question_keeps g.Q.PlanQuestion.form g.Q.Question.answers question (g.Q.PlanQuestion.puts question) (c.puts_the_answer.ensures question) input put end runs)
