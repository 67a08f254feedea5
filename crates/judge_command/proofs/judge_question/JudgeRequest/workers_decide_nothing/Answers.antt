use Rattle.judge_command.proofs.JudgeWordLemmas.{workers_decide_no_judging}
use Rattle.judge_command.proofs.judge_question.JudgeRequest.workers_decide_nothing.Goals as goal

pub returns : goal.returns
returns c = workers_decide_no_judging
