use Rattle.closure_model.proofs.WeightMeasure.{measure}
use Rattle.network_closure.specs.Saturation.{IsPartialClosure}
use Rattle.cell_table.proofs.settlement.settle.Given as goal

abbrev pub invariant-loop-table : goal.invariant-loop-table
invariant-loop-table g l = IsPartialClosure l.net l.table

abbrev pub decreases-loop-table : goal.decreases-loop-table
decreases-loop-table g l = measure l.net l.table
