use Rattle.multiplexed_commands.proofs.AloneLemmas.{run_alone}
use Rattle.multiplexed_commands.proofs.laws.law_each_runs_alone.Goals as goal

pub returns : goal.returns
returns g c = λ fixed whole around spare_capacity here there lines put are answers place name start is_started. run_alone g.C.Command.machine fixed whole around spare_capacity here there lines put are answers place name start is_started
