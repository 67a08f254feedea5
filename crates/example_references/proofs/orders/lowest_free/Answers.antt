use Rattle.std.proofs.Common.{sym, arith}
use Rattle.closure_model.specs.Orders.{is_free}
use Rattle.closure_model.proofs.OrderLemmas.{found_at, found_nowhere}
use Rattle.example_references.specs.NodeTables.{table_in}
use Rattle.example_references.proofs.orders.lowest_free.Goals as goal

pub returns-then-is_free : goal.returns-then-is_free
returns-then-is_free c =
    let table = table_in c.args.net.now c.args.nodes.now in
    let count = c.points-count.ensures c.args.nodes.now in
    sym (found_at (is_free table c.args.placed.now) table.shape.points c.loop-point.point (omega arith) (sym c.if-is_free.ensures) (λ j less. c.loop-point.invariant j less))

pub returns : goal.returns
returns c =
    let table = table_in c.args.net.now c.args.nodes.now in
    let count = c.points-count.ensures c.args.nodes.now in
    sym (found_nowhere (is_free table c.args.placed.now) table.shape.points (λ j less. c.loop-point.invariant j (omega arith)))
