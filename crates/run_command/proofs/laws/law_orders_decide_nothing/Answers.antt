use Rattle.run_command.proofs.NamedDayLemmas.{orders_decide_nothing}
use Rattle.run_command.proofs.laws.law_orders_decide_nothing.Goals as goal

pub returns : goal.returns
returns c = orders_decide_nothing
