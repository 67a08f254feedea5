use Rattle.cell_table.proofs.HistoryLemmas.{every_step_is_one_of_a_history}
use Rattle.cell_table.proofs.laws.law_steps_are_table_histories.Goals as goal

pub returns : goal.returns
returns c = every_step_is_one_of_a_history
