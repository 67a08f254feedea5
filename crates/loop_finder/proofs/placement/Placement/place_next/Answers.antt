use Rattle.std.proofs.Common.{sym, arith}
use Rattle.closure_model.specs.Keys.{all_points}
use Rattle.closure_model.specs.Orders.{is_free}
use Rattle.closure_model.proofs.OrderLemmas.{find_some, in_points}
use Rattle.loop_finder.proofs.PlacementLemmas.{some_left, placement_more}
use Rattle.loop_finder.proofs.placement.Placement.place_next.Goals as goal

pub push-requires : goal.push-requires
push-requires c =
    let found = find_some (is_free c.args.table.now c.args.self.now.placed.order.items) (all_points c.args.table.now.shape) c.in-Some.point (sym (c.in-Some.ensures c.args.table.now c.requires.placement)) in
    let inside = in_points c.args.table.now c.in-Some.point found.inside in
    omega (arith, inside, c.requires.marks)

pub set-requires : goal.set-requires
set-requires c =
    let found = find_some (is_free c.args.table.now c.args.self.now.placed.order.items) (all_points c.args.table.now.shape) c.in-Some.point (sym (c.in-Some.ensures c.args.table.now c.requires.placement)) in
    let inside = in_points c.args.table.now c.in-Some.point found.inside in
    let count = c.requires.placement.count in
    let due = c.requires.placement.are_due.count in
    omega (arith, inside, count, due)

pub close_edges-requires-clause-to_point : goal.close_edges-requires-clause-to_point
close_edges-requires-clause-to_point c =
    let found = find_some (is_free c.args.table.now c.args.self.now.placed.order.items) (all_points c.args.table.now.shape) c.in-Some.point (sym (c.in-Some.ensures c.args.table.now c.requires.placement)) in
    in_points c.args.table.now c.in-Some.point found.inside

pub close_edges-requires-clause-left : goal.close_edges-requires-clause-left
close_edges-requires-clause-left c =
    let found = find_some (is_free c.args.table.now c.args.self.now.placed.order.items) (all_points c.args.table.now.shape) c.in-Some.point (sym (c.in-Some.ensures c.args.table.now c.requires.placement)) in
    some_left c.args.table.now c.args.self.now.placed.order.items c.args.self.now.left.items c.args.self.now.free c.requires.placement c.in-Some.point (in_points c.args.table.now c.in-Some.point found.inside) found.passes

pub returns-in_ok-push-clause-placement : goal.returns-in_ok-push-clause-placement
returns-in_ok-push-clause-placement c =
    let found = find_some (is_free c.args.table.now c.args.self.now.placed.order.items) (all_points c.args.table.now.shape) c.in-Some.point (sym (c.in-Some.ensures c.args.table.now c.requires.placement)) in
    placement_more c.args.table.now c.args.self.now.placed.order.items c.args.self.now.left.items c.args.self.now.free c.requires.placement c.in-Some.point (in_points c.args.table.now c.in-Some.point found.inside) found.passes
    c.close_edges.new.left.items c.set.new.self c.close_edges.new.free c.set.ensures c.close_edges.ensures.left c.close_edges.ensures.free c.push.new.self.order.items c.in_ok-push.ensures.order
