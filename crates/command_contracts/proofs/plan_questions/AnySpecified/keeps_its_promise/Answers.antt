use Rattle.command_contracts.proofs.PlanQuestionLemmas.{question_keeps}
use Rattle.command_contracts.proofs.plan_questions.AnySpecified.keeps_its_promise.Goals as goal

pub returns : goal.returns
returns g c = λ question input put end runs.
    c.answers_keep_it.ensures question input put end
    (question_keeps g.Q.PlanQuestion.form g.Q.Question.answers question (g.Q.PlanQuestion.puts question) (c.puts_the_answer.ensures question) input put end runs)
