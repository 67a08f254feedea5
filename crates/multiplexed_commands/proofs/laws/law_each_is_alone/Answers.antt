use Rattle.multiplexed_commands.proofs.ProjectionLemmas.{projects}
use Rattle.multiplexed_commands.proofs.laws.law_each_is_alone.Goals as goal

pub returns : goal.returns
returns g c = λ whole around spare_capacity here there lines put are answers. projects g.C.Command.machine whole around spare_capacity lines here there put are answers
