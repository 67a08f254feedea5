use Rattle.std.proofs.Common.{List, not, find, ap, sym, ◌∙◌, arith}
use Rattle.net_model.specs.declared.ids.PointId.{PointId}
use Rattle.closure_model.specs.Keys.{all_points}
use Rattle.closure_model.specs.Orders.{contains_point}
use Rattle.closure_model.proofs.OrderLemmas.{found_at, found_nowhere}
use Rattle.example_references.specs.NodeTables.{table_in}
use Rattle.example_references.proofs.orders.lowest_unplaced.Goals as goal

pub returns-then-not-contains_point : goal.returns-then-not-contains_point
returns-then-not-contains_point c =
    let table = table_in c.args.net.now c.args.nodes.now in
    let count = c.points-count.ensures c.args.nodes.now in
    let found = found_at (λ (p : PointId). not (contains_point c.args.placed.now p)) table.shape.points c.loop-left.left (omega arith) (ap not (sym c.if-not-contains_point.ensures)) (λ j less. ap not (c.loop-left.invariant j less)) in
    sym found ∙ ap (λ (ps : List PointId). find (λ (p : PointId). not (contains_point ps p)) (all_points table.shape)) c.requires

pub returns : goal.returns
returns c =
    let table = table_in c.args.net.now c.args.nodes.now in
    let count = c.points-count.ensures c.args.nodes.now in
    let found = found_nowhere (λ (p : PointId). not (contains_point c.args.placed.now p)) table.shape.points (λ j less. ap not (c.loop-left.invariant j (omega arith))) in
    sym found ∙ ap (λ (ps : List PointId). find (λ (p : PointId). not (contains_point ps p)) (all_points table.shape)) c.requires
