use Rattle.std.proofs.Common.{sym, subst}
use Rattle.closure_model.specs.Orders.{IsOrder, IsCycle}
use Rattle.loop_finder.specs.NegativeSuccessors.{AreNegativeSuccessors}
use Rattle.loop_finder.proofs.FoundLemmas.{order_says, cycle_says, left_in_range}
use Rattle.loop_finder.proofs.FreeLemmas.{successors_within}
use Rattle.loop_finder.proofs.placement.order.Goals as goal

pub cycle_from-requires-clause-within : goal.cycle_from-requires-clause-within
cycle_from-requires-clause-within c = successors_within c.args.table.now c.as_slice.result.now (subst (AreNegativeSuccessors c.args.table.now) (sym c.as_slice.ensures.value) c.in_ok-lists-in-Some.ensures) c.args.points c.requires

pub cycle_from-requires-clause-first : goal.cycle_from-requires-clause-first
cycle_from-requires-clause-first c = left_in_range c.in_ok-placed.placed.order.items c.args.points c.in-Some.first c.in-Some.ensures

pub returns-in-None-clause-says : goal.returns-in-None-clause-says
returns-in-None-clause-says c =
    subst (IsOrder c.args.table.now) (sym c.new.ensures) (order_says c.args.table.now c.args.points c.in_ok-placed.placed.order.items c.requires c.in_ok-placed.ensures.placed c.in-None.ensures)

pub returns-in_ok-cycle-in-Some-clause-says : goal.returns-in_ok-cycle-in-Some-clause-says
returns-in_ok-cycle-in-Some-clause-says c =
    subst (IsCycle c.args.table.now) (sym c.new-in-Some.ensures)
    (cycle_says c.args.table.now c.args.points c.in_ok-placed.placed.order.items c.requires c.in_ok-placed.ensures.placed c.in-Some.first c.in_ok-cycle-in-Some.cycle.items c.in-Some.ensures
    (c.in_ok-cycle-in-Some.ensures c.args.table.now (sym c.requires) (subst (AreNegativeSuccessors c.args.table.now) (sym c.as_slice.ensures.value) c.in_ok-lists-in-Some.ensures) c.in_ok-placed.ensures.placed))
