use Rattle.closure_model.proofs.WeightMeasure.{measure}
use Rattle.network_closure.specs.Saturation.{IsPartialClosure}
use Rattle.network_closure.proofs.closure.close.Given as goal

abbrev pub invariant-loop-dense : goal.invariant-loop-dense
invariant-loop-dense g l = IsPartialClosure l.net l.dense × IsPartialClosure l.net l.table

abbrev pub decreases-loop-dense : goal.decreases-loop-dense
decreases-loop-dense g l = measure l.net l.dense
