use Rattle.judge_command.proofs.JudgeLemmas.{judge_keeps}
use Rattle.judge_command.proofs.judge_question.JudgeSpecified.keeps_its_promise.Goals as goal

pub returns : goal.returns
returns c = λ judge. judge_keeps c.law_accepted_excludes.ensures c.law_accepted_controls.ensures c.law_accepted_excludes-2.ensures judge
