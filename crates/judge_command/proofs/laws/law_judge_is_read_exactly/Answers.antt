use Rattle.judge_command.proofs.JudgeWordLemmas.{judge_exactly}
use Rattle.judge_command.proofs.laws.law_judge_is_read_exactly.Goals as goal

pub returns : goal.returns
returns c = judge_exactly
