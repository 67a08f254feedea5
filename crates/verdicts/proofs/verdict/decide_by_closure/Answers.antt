use Rattle.std.proofs.Common.{ap}
use Rattle.net_model.specs.Network.{Plan}
use Rattle.verdicts.proofs.verdict.decide_by_closure.Goals as goal

pub closure_if_controllable-requires-clause-no_delay : goal.closure_if_controllable-requires-clause-no_delay
closure_if_controllable-requires-clause-no_delay g c = λ lifetimes lives. ap (λ (net : Plan). net.delay) c.in_ok-shown.ensures
