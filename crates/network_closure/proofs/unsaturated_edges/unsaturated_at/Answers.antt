use Rattle.network_closure.specs.Saturation.{IsUnsaturated}
use Rattle.network_closure.specs.RowTest.{SaturatesAt, SaturatesUnlessBy}
use Rattle.network_closure.proofs.ConsequenceLemmas.{match_met}
use Rattle.network_closure.proofs.RowTestLemmas.{covered_here, covered_there, none_at, tested_at}
use Rattle.network_closure.proofs.unsaturated_edges.unsaturated_at.Goals as goal

pub returns-in-None-clause-saturates : goal.returns-in-None-clause-saturates
returns-in-None-clause-saturates c = none_at c.args.net.now c.args.is_order c.args.table.now c.args.from c.args.to c.args.label c.in-None.ensures

pub unsaturated_by-requires-clause-edge : goal.unsaturated_by-requires-clause-edge
unsaturated_by-requires-clause-edge c = c.in-Some.ensures.has

pub unsaturated_by-requires-clause-covered : goal.unsaturated_by-requires-clause-covered
unsaturated_by-requires-clause-covered c =
    covered_there c.args.net.now c.args.table.now c.args.from c.args.to c.args.label c.in-Some.edge c.args.covered.now.items c.in-Some.ensures c.requires.covered

pub returns-in-Some-clause-saturates : goal.returns-in-Some-clause-saturates
returns-in-Some-clause-saturates c =
    match_met (SaturatesUnlessBy c.args.net.now c.args.is_order c.args.table.now c.in-Some.edge) (SaturatesAt c.args.net.now c.args.is_order c.args.table.now c.args.from c.args.to c.args.label)
    (IsUnsaturated c.args.net.now c.args.table.now) c.unsaturated_by.result (tested_at c.args.net.now c.args.is_order c.args.table.now c.args.from c.args.to c.args.label c.in-Some.edge c.in-Some.ensures)
    c.unsaturated_by.ensures.saturates

pub returns-in-Some-clause-covered : goal.returns-in-Some-clause-covered
returns-in-Some-clause-covered c =
    covered_here c.args.net.now c.args.table.now c.args.from c.args.to c.args.label c.in-Some.edge c.unsaturated_by.new.covered.items c.in-Some.ensures c.unsaturated_by.ensures.covered
