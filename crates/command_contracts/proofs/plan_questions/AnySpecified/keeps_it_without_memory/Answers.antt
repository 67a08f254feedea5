use Rattle.std.proofs.Common.{inl}
use Rattle.command_engine.proofs.AnswersOnceLemmas.{wants_before_answer}
use Rattle.common_answers.specs.Faults.{refusing}
use Rattle.input_texts.specs.PlanInput.{initial_input, input_reader}
use Rattle.command_contracts.proofs.plan_questions.AnySpecified.keeps_it_without_memory.Goals as goal

pub returns : goal.returns
returns g c = λ question input untaken put pieces breaks.
    inl (wants_before_answer g.Q.Question.answers input_reader refusing question (initial_input (g.Q.PlanQuestion.form question)) input untaken put pieces breaks)
