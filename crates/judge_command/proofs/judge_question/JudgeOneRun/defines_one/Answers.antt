use Rattle.command_engine.specs.Pairs.{then_reader}
use Rattle.input_texts.specs.ProofInputs.{proof_reader}
use Rattle.common_answers.specs.Faults.{refusing}
use Rattle.judge_command.specs.JudgePromise.{JudgePromise}
use Rattle.judge_command.specs.JudgeAnswers.{judge_answers, judge_start}
use Rattle.input_texts.specs.PlanInput.{input_reader}
use Rattle.command_contracts.specs.Causes.{text_causes}
use Rattle.command_contracts.specs.Programs.{or_nothing}
use Rattle.judge_command.specs.JudgeInput.{judge_grammar}
use Rattle.judge_command.specs.declared.judge_question.Judge.{Judge}
use Rattle.judge_command.proofs.JudgeLemmas.{judge_answers_once}
use Rattle.command_contracts.proofs.ProgramLemmas.{answers_once_defines_one}
use Rattle.judge_command.proofs.judge_question.JudgeOneRun.defines_one.Goals as goal

pub returns : goal.returns
returns c = record {
  each = λ judge. answers_once_defines_one (λ (question : Judge) value number. judge_answers question value) (then_reader input_reader proof_reader) refusing (judge_start judge)
      (or_nothing (text_causes (judge_grammar judge)) (JudgePromise judge)) (λ question value number. judge_answers_once question value);
}
