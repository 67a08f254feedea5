use Rattle.std.proofs.Common.{inl}
use Rattle.command_engine.proofs.AnswersOnceLemmas.{wants_before_answer}
use Rattle.command_engine.specs.Pairs.{then_reader}
use Rattle.input_texts.specs.ProofInputs.{proof_reader}
use Rattle.common_answers.specs.Faults.{refusing}
use Rattle.judge_command.specs.JudgeAnswers.{judge_answers, judge_start}
use Rattle.input_texts.specs.PlanInput.{input_reader}
use Rattle.judge_command.specs.declared.judge_question.Judge.{Judge}
use Rattle.judge_command.proofs.judge_question.JudgeSpecified.keeps_it_without_memory.Goals as goal

pub returns : goal.returns
returns c = λ judge input untaken put pieces breaks.
    inl (wants_before_answer (λ (question : Judge) value number. judge_answers question value) (then_reader input_reader proof_reader) refusing judge (judge_start judge).text input untaken put pieces breaks)
