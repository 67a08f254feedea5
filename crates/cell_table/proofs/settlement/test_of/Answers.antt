use Rattle.std.proofs.Common.{sym, subst, ◌∙◌}
use Rattle.loop_finder.specs.OrderOrCycle.{IsWhatItSays}
use Rattle.network_closure.specs.Saturation.{TestsTo}
use Rattle.network_closure.proofs.PartialClosureLemmas.{closed_partial_closure_is_closure, found_order}
use Rattle.cell_table.proofs.settlement.test_of.Goals as goal

pub returns-in-None : goal.returns-in-None
returns-in-None g c = record {
  closure = closed_partial_closure_is_closure c.args.net.now c.args.table.now c.requires.partial_closure (subst (TestsTo c.args.net.now c.args.table.now) c.in-None.is c.in_ok-unsaturated_edge-in-Order.ensures);
  order_is = subst (IsWhatItSays c.args.table.now) c.in-Order.is c.in_ok-cycle.ensures.says;
  placed = found_order c.args.table.now c.in-Order.order (sym c.in-Order.is ∙ c.in_ok-cycle.ensures.found);
}
