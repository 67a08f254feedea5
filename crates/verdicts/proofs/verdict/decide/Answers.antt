use Rattle.std.proofs.Common.{ap}
use Rattle.net_model.specs.Network.{Plan}
use Rattle.verdicts.proofs.verdict.decide.Goals as goal

pub forward_table_if_controllable-requires-clause-no_delay : goal.forward_table_if_controllable-requires-clause-no_delay
forward_table_if_controllable-requires-clause-no_delay g c = λ lifetimes lives. ap (λ (net : Plan). net.delay) c.in_ok-shown.ensures
