use Rattle.std.proofs.Common.{ap}
use Rattle.net_model.specs.Network.{Plan}
use Rattle.verdicts.proofs.DecisionLemmas.{shown_fits}
use Rattle.verdicts.proofs.verdict.decide_by_cells.Goals as goal

pub closure_by_cells-requires-clause-no_delay : goal.closure_by_cells-requires-clause-no_delay
closure_by_cells-requires-clause-no_delay g c = λ lifetimes lives. ap (λ (net : Plan). net.delay) c.in_ok-shown.ensures

pub closure_by_cells-requires-clause-few : goal.closure_by_cells-requires-clause-few
closure_by_cells-requires-clause-few g c = λ lifetimes lives. shown_fits c.args.net c.in_ok-shown.shown c.in_ok-shown.ensures c.requires.few
