use Rattle.run_command.proofs.OrderLemmas.{lines_in_order}
use Rattle.run_command.proofs.laws.law_feeders_put_the_lines_in_order.Goals as goal

pub returns : goal.returns
returns c = lines_in_order c.law_lines_have_one_reading.ensures
