use Rattle.multiplexed_commands.proofs.StartLemmas.{answered_alone}
use Rattle.multiplexed_commands.proofs.laws.law_many_are_alone.Goals as goal

pub returns : goal.returns
returns g c = λ fixed whole around spare_capacity. answered_alone g.C.Command.machine fixed whole around spare_capacity
