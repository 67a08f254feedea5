use Rattle.judge_command.specs.JudgePromise.{PutsJudgement}
use Rattle.judge_command.specs.JudgeInput.{judge_grammar}
use Rattle.command_contracts.proofs.CauseLemmas.{text_ends}
use Rattle.judge_command.proofs.JudgeEndLemmas.{judged_answers}
use Rattle.judge_command.proofs.judge_question.JudgeSpecified.ends_by_its_causes.Goals as goal

pub returns : goal.returns
returns c = λ judge holds input put end runs. text_ends (judge_grammar judge) (λ value number. PutsJudgement value) judged_answers input put end (holds input put end runs).judges
