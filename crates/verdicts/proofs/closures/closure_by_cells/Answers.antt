use Rattle.std.proofs.lemmas.Result.{IfOk-weaker}
use Rattle.network_closure.specs.Saturation.{ClosesTo}
use Rattle.verdicts.specs.Decisions.{IsDecidedBy, IsOrderedClosure}
use Rattle.verdicts.proofs.DecisionLemmas.{closes_decides}
use Rattle.verdicts.proofs.closures.closure_by_cells.Goals as goal

pub returns : goal.returns
returns g c =
    let net = c.args.net.now in
    IfOk-weaker c.close_by_cells.result (ClosesTo net) (IsDecidedBy IsOrderedClosure net)
    (closes_decides c.law_ordered_closures_are_controllable.ensures c.law_cycles_of_tables_exclude.ensures net (record { sound = c.sound.ensures; no_delay = c.requires.no_delay })) c.close_by_cells.ensures
