use Rattle.std.proofs.Common.{sym, arith}
use Rattle.closure_model.specs.Orders.{goes_on}
use Rattle.closure_model.proofs.OrderLemmas.{found_at, found_nowhere}
use Rattle.example_references.specs.NodeTables.{table_in}
use Rattle.example_references.proofs.orders.next_on.Goals as goal

pub returns-then-goes_on : goal.returns-then-goes_on
returns-then-goes_on c =
    let table = table_in c.args.net.now c.args.nodes.now in
    let count = c.points-count.ensures c.args.nodes.now in
    sym (found_at (goes_on table c.args.placed.now c.args.from) table.shape.points c.loop-to.to (omega arith) (sym (c.if-goes_on.ensures c.args.net.now)) (λ j less. c.loop-to.invariant j less))

pub returns : goal.returns
returns c =
    let table = table_in c.args.net.now c.args.nodes.now in
    let count = c.points-count.ensures c.args.nodes.now in
    sym (found_nowhere (goes_on table c.args.placed.now c.args.from) table.shape.points (λ j less. c.loop-to.invariant j (omega arith)))
