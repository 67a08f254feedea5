use Rattle.work_board.proofs.RuleLemmas.{every_history_keeps}
use Rattle.work_board.proofs.laws.law_histories_keep_the_rule.Goals as goal

pub returns : goal.returns
returns c = every_history_keeps
