use Rattle.std.proofs.Common.{sym, subst, ◌∙◌}
use Rattle.loop_finder.specs.OrderOrCycle.{IsWhatItSays}
use Rattle.closure_model.specs.Tables.{HasEdge}
use Rattle.network_closure.specs.Saturation.{TestsTo}
use Rattle.network_closure.proofs.CopyLemmas.{still_partial_closure, lowered_to_closure}
use Rattle.network_closure.proofs.PartialClosureLemmas.{base_is_partial_closure, lowered_is_partial_closure, unsaturated_leaves_less, closed_partial_closure_is_closure, derivable_key, derivable_size, found_order}
use Rattle.network_closure.proofs.RowTestLemmas.{sequence_of_order}
use Rattle.network_closure.proofs.closure.close.Goals as goal

pub dense_of-requires : goal.dense_of-requires
dense_of-requires g c = base_is_partial_closure c.args.net.now c.in_ok-table.table c.points.ensures.sound c.in_ok-table.ensures.base c.in_ok-table.ensures.shape

pub loop-dense-init : goal.loop-dense-init
loop-dense-init g c = (c.in_ok-dense-2.ensures, base_is_partial_closure c.args.net.now c.in_ok-table.table c.points.ensures.sound c.in_ok-table.ensures.base c.in_ok-table.ensures.shape)

pub unsaturated-requires-clause-sequence : goal.unsaturated-requires-clause-sequence
unsaturated-requires-clause-sequence g c κs within =
    sequence_of_order c.args.net.now c.lower_to_dense.new.table c.loop-dense.dense c.in-Order.order c.as_slice.result.now c.loop-dense.invariant.0 c.in_ok-lower_to_dense.ensures.of_derivable.fits
    c.in_ok-lower_to_dense.ensures.has (subst (IsWhatItSays c.lower_to_dense.new.table) c.in-Order.is c.in_ok-order.ensures.says) c.as_slice.ensures

pub returns-in-Cycle : goal.returns-in-Cycle
returns-in-Cycle g c = record {
  table = c.lower_to_dense.new.table;
  cycle = c.in-Cycle.field-0;
  derivable = c.in_ok-lower_to_dense.ensures.of_derivable.derivable;
  fits = c.in_ok-lower_to_dense.ensures.of_derivable.fits;
  is = subst (IsWhatItSays c.lower_to_dense.new.table) c.in-Cycle.is c.in_ok-order.ensures.says;
}

pub returns-in-None : goal.returns-in-None
returns-in-None g c = record {
  closure = lowered_to_closure c.args.net.now c.loop-dense.dense c.loop-dense.table c.lower_to_dense.new.table
      (closed_partial_closure_is_closure c.args.net.now c.loop-dense.dense c.loop-dense.invariant.0 (subst (TestsTo c.args.net.now c.loop-dense.dense) c.in-None.is c.in_ok-unsaturated-in-Order.ensures)) c.in_ok-lower_to_dense.ensures;
  order = subst (IsWhatItSays c.lower_to_dense.new.table) c.in-Order.is c.in_ok-order.ensures.says;
  placed = found_order c.lower_to_dense.new.table c.in-Order.order (sym c.in-Order.is ∙ c.in_ok-order.ensures.found);
}

pub lower_to-requires-clause-key : goal.lower_to-requires-clause-key
lower_to-requires-clause-key g c = derivable_key c.args.net.now c.loop-dense.invariant.0.plan c.in-Some.edge (subst (TestsTo c.args.net.now c.loop-dense.dense) c.in-Some.is c.in_ok-unsaturated-in-Order.ensures).derivable c.loop-dense.dense
    c.loop-dense.invariant.0.fits

pub lower_to-requires-clause-weight : goal.lower_to-requires-clause-weight
lower_to-requires-clause-weight g c = derivable_size c.args.net.now c.loop-dense.invariant.0.plan c.in-Some.edge (subst (TestsTo c.args.net.now c.loop-dense.dense) c.in-Some.is c.in_ok-unsaturated-in-Order.ensures).derivable

pub loop-dense-smaller : goal.loop-dense-smaller
loop-dense-smaller g c = unsaturated_leaves_less c.args.net.now c.loop-dense.dense c.lower_to.new.self c.in-Some.edge c.loop-dense.invariant.0
    (subst (TestsTo c.args.net.now c.loop-dense.dense) c.in-Some.is c.in_ok-unsaturated-in-Order.ensures) c.lower_to.ensures.lowered

pub loop-dense-preserved : goal.loop-dense-preserved
loop-dense-preserved g c = (
  lowered_is_partial_closure c.args.net.now c.loop-dense.dense c.lower_to.new.self c.in-Some.edge c.loop-dense.invariant.0 (subst (TestsTo c.args.net.now c.loop-dense.dense) c.in-Some.is c.in_ok-unsaturated-in-Order.ensures).derivable
      c.lower_to.ensures.lowered,
  still_partial_closure c.args.net.now (HasEdge c.loop-dense.dense) c.loop-dense.table c.lower_to_dense.new.table c.loop-dense.invariant.1 c.in_ok-lower_to_dense.ensures,
)
