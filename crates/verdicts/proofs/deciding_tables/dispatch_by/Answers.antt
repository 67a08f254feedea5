use Rattle.std.proofs.Common.{List, sym, subst}
use Rattle.net_model.specs.declared.ids.PointId.{PointId}
use Rattle.dispatch_net.specs.Dispatchable.{MayDispatch}
use Rattle.verdicts.proofs.DecisionLemmas.{may_dispatch}
use Rattle.verdicts.proofs.deciding_tables.dispatch_by.Goals as goal

pub of-requires-clause-may : goal.of-requires-clause-may
of-requires-clause-may c =
    let net = c.args.net.now in
    let closed = c.args.closed.now in
    subst (λ (o : List PointId). MayDispatch net closed.table o) (sym c.as_slice.ensures) (may_dispatch net closed.table closed.order c.requires)

pub of-requires-clause-no_delay : goal.of-requires-clause-no_delay
of-requires-clause-no_delay c = c.requires.instant.no_delay
