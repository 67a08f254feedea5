use Rattle.multiplexed_commands.proofs.SingleLemmas.{merged_single}
use Rattle.multiplexed_commands.proofs.laws.law_many_are_single.Goals as goal

pub returns : goal.returns
returns g c = λ single around spare_capacity. merged_single g.C.Command.machine single around spare_capacity
