use Rattle.std.proofs.lemmas.Result.{IfOk-weaker}
use Rattle.forward_closure.specs.Decision.{IsDecidedForward}
use Rattle.verdicts.specs.Decisions.{IsDecidedBy, IsOrderedForwardTable}
use Rattle.verdicts.proofs.DecisionLemmas.{forward_decides}
use Rattle.verdicts.proofs.deciding_tables.forward_table_if_controllable.Goals as goal

pub returns : goal.returns
returns g c =
    let net = c.args.net.now in
    IfOk-weaker c.close_forward.result (IsDecidedForward net) (IsDecidedBy IsOrderedForwardTable net) (forward_decides net) c.close_forward.ensures
